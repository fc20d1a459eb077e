-- Why an instruction stops the machine, in the state before it.
-- (What is illegal or privileged: MMIXware, the part on MMIX. Which reason is the first, and what is left out: a rule
-- of this program.)
use Rattle.std.specs.Prelude.{◌==◌, ◌&&◌, ◌||◌, not, nat_lt, Bool, if◌then◌else◌, Option, None, Some}
use Rattle.mx_ring.specs.Stack.{set_overfills, push_overfills, pop_underflows, save_overfills, unsave_refused}
use Rattle.mx_code.specs.Puts.{put_of}
use Rattle.mx_code.specs.declared.put.Put.{Put}
use Rattle.mx_code.specs.declared.put.Put.TheVariants as put
use Rattle.mx_core.specs.Effects.{Effect, Store, Tripping, z_operand}
use Rattle.mx_code.specs.Instructions.{x_of, y_of, z_of, yz_of, xyz_of}
use Rattle.mx_code.specs.declared.instruction.Instruction.{Instruction}
use Rattle.mx_code.specs.Operations.{has_destination}
use Rattle.mx_core.specs.State.{State, global_start, locals, tetra, is_page_refused, is_negative}
use Rattle.mx_code.specs.declared.operation.Operation.{Operation}
use Rattle.mx_code.specs.declared.operation.Operation.TheVariants as op
use Rattle.mx_code.specs.declared.reason.Reason.{Reason}
use Rattle.mx_code.specs.declared.reason.Reason.TheVariants.{Float, Illegal, Privileged, Negative, StackFull, Underflow, BadFrame, UnhandledTrip, PagesFull, ResumeInsert}
use Rattle.mx_code.specs.declared.trace.Touch.{Touch}

-- a reason where something holds
abbrev pub reason_where : Bool → Reason → Option Reason
reason_where holds reason = if holds then Some reason else None

-- the first of two reasons, where there is one
abbrev pub first_reason : Option Reason → Option Reason → Option Reason
first_reason (Some reason) other = Some reason
first_reason None other = other

-- PUT of what may not be put
abbrev pub put_fault : Put → Option Reason
put_fault (put.Store value) = None
put_fault put.Illegal = Some Illegal
put_fault put.Privileged = Some Privileged

-- fields that an operation does not take, and operations that no program may carry out; RESUME inserts neither
-- RESUME nor TRAP
unfoldable pub form_fault : Operation → State → Instruction → Option Reason
form_fault op.Float s i = Some Float
form_fault op.Privileged s i = Some Privileged
form_fault op.Resume s i = Some Illegal
form_fault op.Trap s i = Some ResumeInsert
form_fault op.Get s i = reason_where (not (y_of i == 0) || nat_lt 31 (z_of i)) Illegal
form_fault op.Put s i =
    if not (y_of i == 0) || nat_lt 31 (x_of i) then Some Illegal
    else put_fault (put_of (x_of i) (z_operand s i) (global_start s) (locals s))
form_fault op.Save s i = reason_where (not (yz_of i == 0) || nat_lt (x_of i) (global_start s)) Illegal
form_fault op.Unsave s i = reason_where (not (x_of i == 0) || not (y_of i == 0)) Illegal
form_fault op.Synchronize s i =
    if nat_lt 7 (xyz_of i) then Some Illegal else reason_where (nat_lt 3 (xyz_of i)) Privileged
form_fault operation s i = None

-- an address of 2^63 or more
abbrev pub load_fault : Option Touch → Option Reason
load_fault None = None
load_fault (Some t) = reason_where (is_negative t.at) Negative

abbrev pub store_fault : Option Store → Option Reason
store_fault None = None
store_fault (Some store) = reason_where (is_negative store.at) Negative

-- what the register stack refuses
unfoldable pub stack_fault : Operation → State → Instruction → Option Reason
stack_fault op.PushJump s i = reason_where (push_overfills s.stack (x_of i)) StackFull
stack_fault op.PushGo s i = reason_where (push_overfills s.stack (x_of i)) StackFull
stack_fault op.Pop s i = reason_where (pop_underflows s.stack) Underflow
stack_fault op.Save s i = reason_where (save_overfills s.stack) StackFull
stack_fault op.Unsave s i = reason_where (unsave_refused s.stack (z_operand s i)) BadFrame
stack_fault operation s i = reason_where (has_destination operation && set_overfills s.stack (x_of i)) StackFull

-- a trip whose handler does not begin with an instruction
abbrev pub trip_fault : State → Option Tripping → Option Reason
trip_fault s None = None
trip_fault s (Some trip) = reason_where (tetra s trip.handler == 0) UnhandledTrip

-- a store that would begin one page too many
abbrev pub page_fault : State → Option Store → Option Reason
page_fault s None = None
page_fault s (Some store) = reason_where (is_page_refused s store.at) PagesFull

-- the reasons in their order: the form, the address, the register stack, the trip, the pages
abbrev pub refusal : Operation → State → Instruction → Effect → Option Reason
refusal operation s i e =
    first_reason (form_fault operation s i)
    (first_reason (load_fault e.load)
    (first_reason (store_fault e.store)
    (first_reason (stack_fault operation s i) (first_reason (trip_fault s e.trip) (page_fault s e.store)))))

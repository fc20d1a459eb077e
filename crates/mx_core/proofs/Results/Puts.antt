-- What PUT comes to.
use Rattle.std.proofs.Common.{◌≡◌, ℕ, ◌==◌, ◌&&◌, ◌||◌, Bool, true, false, not, nat_lt, if◌then◌else◌, Option, None, Some, Result, Ok, Err, refl, ap, ◌∙◌}
use Rattle.mx_ring.specs.Stack.{cut_to, with_global_start}
use Rattle.mx_code.specs.Puts.{put_of}
use Rattle.mx_code.specs.SpecialRegisters.{rG, rL, rJ}
use Rattle.mx_code.specs.declared.put.Put.{Put}
use Rattle.mx_code.specs.declared.put.Put.TheVariants as put
use Rattle.mx_core.specs.Way.Calls.{put_outcome, put_done}
use Rattle.mx_core.specs.UserChanges.{with_put}
use Rattle.mx_core.specs.Deeds.{applied, onward, outcome, deed_of, unless_refused, is_absent, loads_in_segment, stores_in_segment}
use Rattle.mx_core.specs.Effects.{Effect, effect_of, z_operand, putting}
use Rattle.mx_code.specs.Instructions.{x_of, y_of, next_of}
use Rattle.mx_code.specs.declared.instruction.Instruction.{Instruction}
use Rattle.mx_core.specs.State.{State, global_start, locals, with_special}
use Rattle.mx_core.specs.Stops.{first_reason, form_fault, stack_fault, load_fault, store_fault, trip_fault, page_fault, put_fault}
use Rattle.mx_code.specs.declared.operation.Operation.TheVariants as op
use Rattle.mx_code.specs.declared.reason.Reason.{Reason}
use Rattle.mx_code.specs.declared.reason.Reason.TheVariants.{Illegal}
use Rattle.mx_core.proofs.Results.Others.{unseen}

-- what an effect comes to, of an operation without a destination that looks at nothing
abbrev from_put : State → Instruction → Option Reason → Effect → Result State Reason
from_put s i f e =
    unless_refused (first_reason f (first_reason (load_fault e.load) (first_reason (store_fault e.store) (first_reason None (first_reason (trip_fault s e.trip) (page_fault s e.store))))))
    (record (applied s i 0 e) { touched = s.touched || (is_absent f && (false || loads_in_segment e.load || stores_in_segment e.store)) })

put-value : (s : State) (i : Instruction) (code v : ℕ) (a b : Bool) → code == rL ≡ a → code == rG ≡ b → from_put s i None (putting i code (put.Store v)) ≡ Ok (onward (with_put s code v) (next_of i))
unfolding applied
put-value s i code v true b e f = rw e (ap Ok (unseen s (onward (record s { stack = cut_to s.stack v }) (next_of i)) refl))
put-value s i code v false true e f = rw (e, f) (ap Ok (unseen s (onward (record s { stack = with_global_start s.stack v }) (next_of i)) refl))
put-value s i code v false false e f = rw (e, f) (ap Ok (unseen s (onward (with_special s code v) (next_of i)) refl))

put-cases : (s : State) (i : Instruction) (bad : Bool) (p : Put) → from_put s i (if bad then Some Illegal else put_fault p) (putting i (x_of i) p) ≡ (if bad then Err Illegal else put_done s i p)
put-cases s i true p = refl
put-cases s i false (put.Store v) = put-value s i (x_of i) v (x_of i == rL) (x_of i == rG) refl refl
put-cases s i false put.Illegal = refl
put-cases s i false put.Privileged = refl

pub put_outcome_is : (s : State) (i : Instruction) → outcome s (deed_of op.Put s i) ≡ put_outcome s i
unfolding effect_of form_fault stack_fault
put_outcome_is s i = put-cases s i (not (y_of i == 0) || nat_lt 31 (x_of i)) (put_of (x_of i) (z_operand s i) (global_start s) (locals s))

-- rJ takes each value
pub put_link : (s : State) (i : Instruction) → x_of i ≡ rJ → y_of i ≡ 0 → outcome s (deed_of op.Put s i) ≡ Ok (onward (with_special s rJ (z_operand s i)) (next_of i))
put_link s i a b = put_outcome_is s i ∙ rw (a, b) (ap (λ k. Ok (onward (with_put s k (z_operand s i)) (next_of i))) a)

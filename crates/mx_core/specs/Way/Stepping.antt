-- What a step answers, with the state that it leaves.
use Rattle.std.specs.Prelude.{ℕ, ◌≡◌, ◌≢◌, ◌==◌, Bool, true, false, not, ◌&&◌, if◌then◌else◌, Option, None, Some}
use Rattle.std.specs.Option.{option_map, is_some}
use Rattle.mx_mem.specs.declared.part.Part.TheVariants.{Octa}
use Rattle.mx_ring.specs.Stack.{Stack, register}
use Rattle.mx_core.specs.Deeds.{Deed, deed_at, state_done, is_absent}
use Rattle.mx_code.specs.LoadsAndStores.{touch}
use Rattle.mx_core.specs.Effects.{Store, data_address}
use Rattle.mx_code.specs.Instructions.{x_of}
use Rattle.mx_code.specs.declared.instruction.Instruction.{Instruction}
use Rattle.mx_core.specs.Kept.{Kept, state_of}
use Rattle.mx_core.specs.State.{State, begins_page, is_negative}
use Rattle.mx_core.specs.Step.{Stepped, went, calls, stopped, fetched, step, store_touch}
use Rattle.mx_code.specs.declared.trace.Touch.{Touch}
use Rattle.mx_code.specs.declared.trace.Trace.{Trace}
use Rattle.mx_code.specs.declared.operation.Operation.{Operation}
use Rattle.mx_code.specs.declared.operation.Operation.TheVariants as op
use Rattle.mx_core.specs.declared.sight.Sight.{Sight}
use Rattle.mx_core.specs.declared.step.Advance.{Advance}
use Rattle.mx_core.specs.declared.step.Advance.TheVariants as advance
use Rattle.mx_core.specs.declared.step.Step.{Step}
use Rattle.mx_core.specs.declared.step.Step.TheVariants as answer

-- a step with its trace
abbrev pub step_answer : State → Stepped → Step × State
step_answer s (went t trace) = (answer.Went trace, t)
step_answer s (calls call) = (answer.Trap call, s)
step_answer s (stopped reason) = (answer.Stopped reason, s)

-- a step without it
abbrev pub advanced : State → Stepped → Advance × State
advanced s (went t trace) = (advance.Went, t)
advanced s (calls call) = (advance.Trap, s)
advanced s (stopped reason) = (advance.Stopped reason, s)

-- a call makes a step of the old machine, with its trace and without it, unless it is out of memory
abbrev pub HasStepped : Step → Kept → Kept → Type 0
HasStepped result old new = result ≢ answer.OutOfMemory → (result, state_of new) ≡ step_answer (state_of old) (step (state_of old))

abbrev pub HasAdvanced : Advance → Kept → Kept → Type 0
HasAdvanced result old new = result ≢ advance.OutOfMemory → (result, state_of new) ≡ advanced (state_of old) (step (state_of old))

-- what an instruction does to its destination and to memory
abbrev pub sight_of : Deed → Sight
sight_of d = record { dest = d.destination; reads = d.effect.load; writes = option_map store_touch d.effect.store }

-- a trace has what an instruction does
abbrev pub ShowsSight : Trace → Sight → Type 0
ShowsSight t g = (t.dest ≡ g.dest) × (t.reads ≡ g.reads) × (t.writes ≡ g.writes)

-- whether an operation loads, stores or exchanges
abbrev pub moves_memory : Operation → Bool
moves_memory (op.Load how) = true
moves_memory (op.Store how) = true
moves_memory op.CompareAndSwap = true
moves_memory operation = false

-- whether an operation may store: only then memory may be lacking
abbrev pub may_store : Operation → Bool
may_store (op.Store how) = true
may_store op.CompareAndSwap = true
may_store operation = false

abbrev pub is_swap : Operation → Bool
is_swap op.CompareAndSwap = true
is_swap operation = false

-- only an exchange reads and writes
abbrev pub is_exchange : Sight → Bool
is_exchange g = is_some g.reads && is_some g.writes

-- an exchange, told before it is carried out, as one that writes
abbrev pub exchange_sight : State → Instruction → Sight
exchange_sight s i = record {
  dest = Some (x_of i);
  reads = Some (touch (data_address s i) Octa);
  writes = Some (touch (data_address s i) Octa);
}

-- what was written, as the registers tell afterwards: an exchange wrote where its destination is 1
abbrev pub told_write : Stack → Option ℕ → Option Touch → Option Touch → Option Touch
told_write z (Some x) (Some read) (Some place) = if register z x == 1 then Some place else None
told_write z dest reads writes = writes

abbrev pub write_told : State → Sight → Option Touch
write_told s g = told_write s.stack g.dest g.reads g.writes

-- a sight, told before a deed that is not refused, is the deed's own once the registers tell what was written
abbrev pub Foretells : State → Deed → Sight → Type 0
Foretells s d g = d.refused ≡ None → record g { writes = write_told (state_done s d) g } ≡ sight_of d

-- whether a store is to a page that is not there
abbrev pub begins_page_at : State → Option Store → Bool
begins_page_at s None = false
begins_page_at s (Some store) = begins_page s store.at

-- whether a deed is carried out with such a store: what is refused takes no memory
abbrev pub needs_page : State → Deed → Bool
needs_page s d = is_absent d.refused && begins_page_at s d.effect.store

-- whether the next step does; at an address of 2^63 or more nothing is fetched
abbrev pub step_needs_page : State → Bool
step_needs_page s = not (is_negative s.pc) && needs_page s (deed_at s (fetched s))

-- What the calls that change the machine answer, and the state that they leave.
use Rattle.std.specs.Prelude.{ℕ, ◌≡◌, Result, Ok, Err, if◌then◌else◌}
use Rattle.mx_mem.specs.declared.fault.MemFault.{MemFault}
use Rattle.mx_mem.specs.declared.fault.MemFault.TheVariants.{PagesFull}
use Rattle.mx_core.specs.Kept.{Kept, state_of}
use Rattle.mx_core.specs.State.{State, with_octa, is_page_refused}
use Rattle.mx_core.specs.declared.changes.SetFault.{SetFault}

-- an answer, and the state that a call leaves, where it makes another state or refuses to
abbrev pub left_changed : State → Result State SetFault → Result (Unit {0}) SetFault × State
left_changed s (Ok t) = (Ok tt, t)
left_changed s (Err fault) = (Err fault, s)

-- a call makes this of the old machine
abbrev pub Changes : (State → Result State SetFault) → Result (Unit {0}) SetFault → Kept → Kept → Type 0
Changes f result old new = (result, state_of new) ≡ left_changed (state_of old) (f (state_of old))

-- an octa in place of the one that holds an address, unless that begins one page too many
abbrev pub store_left : State → ℕ → ℕ → Result (Unit {0}) MemFault × State
store_left s a x = if is_page_refused s a then (Err PagesFull, s) else (Ok tt, with_octa s a x)

abbrev pub Stores : ℕ → ℕ → Result (Unit {0}) MemFault → Kept → Kept → Type 0
Stores a x result old new = (result, state_of new) ≡ store_left (state_of old) a x

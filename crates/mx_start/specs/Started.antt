-- What the calls answer that start the machine, and what they leave.
use Rattle.std.specs.Prelude.{◌≡◌, ◌≢◌, ℕ, ◌||◌, if◌then◌else◌, Option, None, Some, Result, Ok, Err}
use Rattle.mx_word.specs.Results.{map_ok}
use Rattle.mx_core.specs.Kept.{Kept, state_of}
use Rattle.mx_core.specs.State.{State, with_octa, is_negative, is_page_refused}
use Rattle.mx_start.specs.declared.fault.StartFault.{StartFault}
use Rattle.mx_start.specs.declared.fault.StartFault.TheVariants.{PagesFull, OutOfMemory}

-- out of memory has no number
abbrev pub start_number : StartFault → ℕ
start_number PagesFull = 118
start_number OutOfMemory = 0

-- a state, or that the pages are full
abbrev pub begun : Option State → Result State StartFault
begun (Some s) = Ok s
begun None = Err PagesFull

-- unless there was no memory, the machine has this state, or the pages are full
abbrev pub StartsAs : Result Kept StartFault → Option State → Type 0
StartsAs result start = result ≢ Err OutOfMemory → map_ok state_of result ≡ begun start

-- the state that a call leaves; nothing where it is refused
abbrev pub stored_by : Result (Unit {0}) StartFault → State → Option State
stored_by (Ok u) s = Some s
stored_by (Err fault) s = None

-- an octa in place of the one that holds an address, unless it needs a page too many
unfoldable pub stored : State → ℕ → ℕ → Option State
stored s a x = if is_negative a || is_page_refused s a then None else Some (with_octa s a x)

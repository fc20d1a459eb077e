-- A schedule in a file: each of its bytes names a processor, which is one of eight.
use Rattle.std.specs.Prelude.{ℕ, ◌^◌, ◌<◌, ◌≤◌, ◌==◌, Bool, nat_lt, if◌then◌else◌, List, [], ◌∷◌, length, get_or, Option, None, Some, Result, Ok, Err}
use Rattle.std.specs.List.{position}
use Rattle.mx_host.specs.HostModel.{HostModel}
use Rattle.mx_host.specs.HostAnswer.{Then}
use Rattle.mx_plan.specs.Calls.{host}
use Rattle.mx_plan.specs.Plan.{returns, bind, end_of}
use Rattle.mx_files.specs.FilePlans.{Part, on_ok, file_plan}
use Rattle.mx_files.specs.Source.{source_pieces}
use Rattle.mx_outcome.specs.declared.outcome.Outcome.{Outcome}
use Rattle.mx_outcome.specs.declared.outcome.Outcome.TheVariants.{BadSchedule}

abbrev pub longest : ℕ
longest = 2 ^ 22

-- A place at which a schedule is at fault: it has no bytes, it goes on after 2^22 bytes, or its byte there names none of eight
-- processors.
pub data IsAtFault : List ℕ → ℕ → Type 0 where
  empty : IsAtFault [] 0
  long : (bytes : List ℕ) → longest < length bytes → IsAtFault bytes longest
  unnamed : (bytes : List ℕ) (place : ℕ) → place < length bytes → 8 ≤ get_or bytes place 0 → IsAtFault bytes place

-- the least such place
pub record IsLeastFault (bytes : List ℕ) (place : ℕ) : Type 0 where
  pub fault : IsAtFault bytes place
  pub least : (other : ℕ) → IsAtFault bytes other → place ≤ other

-- there is none
abbrev pub IsFaultless : List ℕ → Type 0
IsFaultless bytes = (place : ℕ) → IsAtFault bytes place → ⊥

-- the least place of a fault, as it is found
abbrev pub is_unnamed : ℕ → Bool
is_unnamed b = nat_lt 7 b

abbrev pub length_fault : ℕ → Option ℕ
length_fault count = if count == 0 then Some 0 else if nat_lt longest count then Some longest else None

abbrev pub least_fault : Option ℕ → ℕ → Option ℕ
least_fault None count = length_fault count
least_fault (Some place) count = if nat_lt place longest then Some place else length_fault count

abbrev pub schedule_fault : List ℕ → Option ℕ
schedule_fault bytes = least_fault (position is_unnamed bytes) (length bytes)

-- a schedule that was read, or the outcome where it is at fault
abbrev pub judged : Option ℕ → List ℕ → Result (List ℕ) Outcome
judged None bytes = Ok bytes
judged (Some place) bytes = Err (BadSchedule place)

unfoldable pub schedule_in : List ℕ → Result (List ℕ) Outcome
schedule_in bytes = judged (schedule_fault bytes) bytes

-- the schedule in the file of this name: it is judged when the file was closed
unfoldable pub schedule_plan : List ℕ → Part (List ℕ)
schedule_plan name = bind (on_ok (λ bytes. returns (schedule_in bytes))) (file_plan source_pieces name)

abbrev pub schedule_bytes : List ℕ → HostModel → Then (Result (List ℕ) Outcome)
schedule_bytes name m = end_of host (schedule_plan name) m

-- each byte names one of eight processors
abbrev pub AreEight : List ℕ → Type 0
AreEight [] = Unit {0}
AreEight (b ∷ bs) = (b < 8) × AreEight bs

-- Steps of a run that are kept.
use Rattle.std.specs.Prelude.{ℕ, ◌≤◌, ◌<◌, List, length, slice_index_or}
use Rattle.std.specs.List.{All}
use Rattle.mx_replay.specs.Visits.{IsStep}
use Rattle.mx_replay.specs.declared.program.Program.{Program}
use Rattle.mx_replay.specs.declared.visit.Visit.{Visit}

-- each of them is a step of the run of this program
abbrev pub AreSteps : Program → List Visit → Type 0
AreSteps p visits = All (IsStep p) visits

-- at a place there is one at step k or before it
abbrev pub IsPlaceBefore : List Visit → ℕ → ℕ → Type 0
IsPlaceBefore visits k place = (place < length visits) × ((d : Visit) → (slice_index_or visits place d).at ≤ k)

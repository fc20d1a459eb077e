-- What is answered where turns are looked for, and the replay of a run.
use Rattle.std.specs.Prelude.{ℕ, ◌≡◌, ◌≤◌, ◌<◌, ◌⊎◌, ◌&&◌, not, nat_lt, Bool, false, true, Option, None, Some}
use Rattle.mx_replay.specs.Marks.{Mark, is_marked}
use Rattle.mx_replay.specs.Programs.{IsReached, is_over}
use Rattle.mx_replay.specs.Visits.{IsStep}
use Rattle.mx_replay.specs.declared.program.Program.{Program}
use Rattle.mx_replay.specs.declared.visit.Visit.{Visit}

-- what a replay shows: a program, and how many turns of its run were made
pub record Replayed : Type 0 where
  pub program : Program
  pub at : ℕ

-- where one is after a call that found no memory: where one was, or at the start
abbrev pub IsLeft : ℕ → ℕ → Type 0
IsLeft old new = (new ≡ old) ⊎ (new ≡ 0)

-- no step after `from` up to `until` has the mark
abbrev pub NoneMarked : Program → Mark → ℕ → ℕ → Type 0
NoneMarked p mark from until = (j : ℕ) → from < j → j ≤ until → is_marked p mark j ≡ false

-- the least step after `from` up to `until` that has the mark
abbrev pub IsNext : Program → Mark → ℕ → ℕ → Option ℕ → Type 0
IsNext p mark from until None = NoneMarked p mark from until
IsNext p mark from until (Some k) =
    (from < k) × (k ≤ until) × (is_marked p mark k ≡ true) × ((j : ℕ) → from < j → j < k → is_marked p mark j ≡ false)

-- the greatest step up to `until` that has the mark
abbrev pub IsLast : Program → Mark → ℕ → Option ℕ → Type 0
IsLast p mark until None = (j : ℕ) → j ≤ until → is_marked p mark j ≡ false
IsLast p mark until (Some k) = (k ≤ until) × (is_marked p mark k ≡ true) × NoneMarked p mark k until

-- the greatest step before `here` that has the mark
abbrev pub IsLastBefore : Program → Mark → ℕ → Option ℕ → Type 0
IsLastBefore p mark here None = (j : ℕ) → j < here → is_marked p mark j ≡ false
IsLastBefore p mark here (Some k) =
    (k < here) × (is_marked p mark k ≡ true) × ((j : ℕ) → k < j → j < here → is_marked p mark j ≡ false)

-- the greatest step after `from` up to `until` that has the mark
abbrev pub IsLastAfter : Program → Mark → ℕ → ℕ → Option ℕ → Type 0
IsLastAfter p mark from until None = NoneMarked p mark from until
IsLastAfter p mark from until (Some k) = (from < k) × (k ≤ until) × (is_marked p mark k ≡ true) × NoneMarked p mark k until

-- ---- on the way

-- whether there are turns to make up to a step
abbrev pub has_more : Visit → ℕ → Bool
has_more v until = nat_lt v.at until && not (is_over v.end)

-- where one is who looked for the next one up to a step: at it, or at that step, or at the last one before it
abbrev pub FoundAt : Program → ℕ → ℕ → ℕ → Option ℕ → Type 0
FoundAt p until from at (Some k) = at ≡ k
FoundAt p until from at None = (from ≤ until → IsReached p until at) × (until ≤ from → at ≡ from)

pub record FindsNext (p : Program) (mark : Mark) (until : ℕ) (old new : Visit) (found : Option ℕ) : Type 0 where
  pub step : IsStep p new
  pub next : IsNext p mark old.at until found
  pub place : FoundAt p until old.at new.at found

-- Where a session goes in the run: to a step, to the next stop or to the last one, or to the step that made a value. Whatever way it
-- goes, what is shown there is that step of the run (`step_of`).
use Rattle.std.specs.Prelude.{ℕ, ◌≡◌, ◌-◌, min, Option, None, Some, Result, Ok, Err}
use Rattle.mx_run.specs.Runs.{Ended}
use Rattle.mx_outcome.specs.declared.outcome.Outcome.{Outcome}
use Rattle.mx_replay.specs.Marks.{changes, stops_at}
use Rattle.mx_stops.specs.Places.{depth, followed}
use Rattle.mx_replay.specs.Programs.{IsReached, step_of}
use Rattle.mx_replay.specs.Searches.{FoundAt, IsLast, IsNext}
use Rattle.mx_stops.specs.declared.places.Place.{Place}
use Rattle.mx_debug.specs.Sessions.{Debugged}

-- how many registers the calls that have not returned have hidden at the step that is visited: 0 where there is no such call
abbrev pub depth_after : Result Ended Outcome → ℕ
depth_after (Ok e) = depth e.state
depth_after (Err outcome) = 0

abbrev pub depth_at : Debugged → ℕ
depth_at d = depth_after (step_of d.program d.at)

-- The place by which a register is followed from the step that is visited: `$k` means one register there, and another one in each
-- call. So one that is not global is followed at its place of the register stack.
abbrev pub followed_after : Place → Result Ended Outcome → Place
followed_after place (Ok e) = followed e.state place
followed_after place (Err outcome) = place

abbrev pub followed_at : Debugged → Place → Place
followed_at d place = followed_after place (step_of d.program d.at)

-- to step k, but not past the last one that can be reached nor past the end of the run
abbrev pub GoesTo : Debugged → ℕ → ℕ → Type 0
GoesTo d k at = IsReached d.program (min k d.most) at

-- To the next stop: the least step after this one at a break, at a change of what is watched, or where at most this many registers are
-- hidden, if that is asked. Where there is none, to the end of the run, or to the last step that can be reached.
pub record GoesToNext (d : Debugged) (shallow : Option ℕ) (at : ℕ) : Type 0 where
  pub found : Option ℕ
  pub next : IsNext d.program (stops_at d.breaks d.watches shallow) d.at d.most found
  pub place : FoundAt d.program d.most d.at at found

-- to the last stop: the greatest such step before this one; where there is none, to the start
abbrev pub ArrivesBack : ℕ → Option ℕ → Type 0
ArrivesBack at None = at ≡ 0
ArrivesBack at (Some k) = at ≡ k

pub record GoesToLast (d : Debugged) (shallow : Option ℕ) (at : ℕ) : Type 0 where
  pub found : Option ℕ
  pub last : IsLast d.program (stops_at d.breaks d.watches shallow) (d.at - 1) found
  pub place : ArrivesBack at found

-- To the step before the turn that made the value at a place. It is the last turn up to this step that changed what is there: a register
-- that is followed in the register stack keeps its value while calls hide it, and a return makes that of its result. Where no turn
-- did, the session stays.
abbrev pub ArrivesBefore : ℕ → ℕ → Option ℕ → Type 0
ArrivesBefore old new None = new ≡ old
ArrivesBefore old new (Some k) = new ≡ k - 1

pub record GoesToMaker (d : Debugged) (place : Place) (at : ℕ) : Type 0 where
  pub found : Option ℕ
  pub last : IsLast d.program (changes place) d.at found
  pub arrives : ArrivesBefore d.at at found

-- Steps that are looked for: those whose turn changes a value or comes to a break, and those at which few registers are hidden.
use Rattle.std.specs.Prelude.{ℕ, zero, suc, ◌||◌, Bool, false, nat_le, List, Option, None, Some, Result, Ok, Err}
use Rattle.std.specs.List.{list_any}
use Rattle.mx_host.specs.HostModel.{HostModel}
use Rattle.mx_core.specs.State.{State}
use Rattle.mx_run.specs.Runs.{Ended}
use Rattle.mx_run.specs.Turns.{Turn, went_on, halts, stops, turn}
use Rattle.mx_run.specs.WildRuns.{state_after}
use Rattle.mx_run.specs.declared.end.End.{End}
use Rattle.mx_run.specs.declared.end.End.TheVariants.{Halted, Stopped, Broke, Traced, Spent, OutOfMemory}
use Rattle.mx_outcome.specs.declared.outcome.Outcome.{Outcome}
use Rattle.mx_replay.specs.Programs.{step_of}
use Rattle.mx_replay.specs.declared.marks.Sought.{Sought}
use Rattle.mx_replay.specs.declared.marks.Sought.TheVariants.{Change, Shallow, Stops}
use Rattle.mx_replay.specs.declared.program.Program.{Program}
use Rattle.mx_stops.specs.Places.{depth, is_change, seen}
use Rattle.mx_stops.specs.Stops.{is_met}
use Rattle.mx_stops.specs.declared.places.Place.{Place}
use Rattle.mx_stops.specs.declared.stops.Break.{Break}
use Rattle.mx_stops.specs.declared.stops.Watch.{Watch}

-- ---- changes

-- whether a turn from a state changes what is at a place
abbrev pub changes_value : Place → State → Turn → Bool
changes_value place s t = is_change place (seen place s) (seen place (state_after t))

-- ---- breaks and watches

-- whether a turn that goes on comes to a break
abbrev pub meets_break : List Break → Turn → Bool
meets_break breaks (went_on t m trace) = list_any (is_met t) breaks
meets_break breaks (halts status t m) = false
meets_break breaks (stops reason t m) = false

-- whether a turn changes a value that is watched
abbrev pub changes_watched : List Watch → State → Turn → Bool
changes_watched watches s t = list_any (λ w. changes_value w.place s t) watches

-- ---- depth

-- whether at most this many registers are hidden
abbrev pub is_at_most : ℕ → State → Bool
is_at_most most s = nat_le (depth s) most

-- if that is asked
abbrev pub is_at_most_if : Option ℕ → State → Bool
is_at_most_if None s = false
is_at_most_if (Some most) s = is_at_most most s

-- ---- marks

-- a mark of steps: of the start by its state, and of another step by the state before its turn and what the turn comes to
pub record Mark : Type 0 where
  pub start : State → Bool
  pub turn : State → Turn → Bool

-- the turn changes the value at a place
abbrev pub changes : Place → Mark
changes place = record { start = λ _. false; turn = changes_value place }

-- the turn changes a value that is watched, comes to a break, or leads to where at most this many are hidden, if that is asked
abbrev pub stops_at : List Break → List Watch → Option ℕ → Mark
stops_at breaks watches most = record {
  start = λ _. false;
  turn = λ s t. changes_watched watches s t || (meets_break breaks t || is_at_most_if most (state_after t));
}

-- at most this many registers are hidden at the step
abbrev pub is_shallow : ℕ → Mark
is_shallow most = record { start = is_at_most most; turn = λ s t. is_at_most most (state_after t) }

-- whether the turn from a step has it; after the last one there is none
abbrev pub marks_from : Mark → End → State → HostModel → Bool
marks_from mark Spent s m = mark.turn s (turn s m)
marks_from mark (Halted status) s m = false
marks_from mark (Stopped pc reason) s m = false
marks_from mark (Broke kind at traced) s m = false
marks_from mark (Traced trace) s m = false
marks_from mark OutOfMemory s m = false

abbrev pub marks_after : Mark → Result Ended Outcome → Bool
marks_after mark (Err outcome) = false
marks_after mark (Ok e) = marks_from mark e.end e.state e.host

-- whether the start has it
abbrev pub marks_start : Mark → Result Ended Outcome → Bool
marks_start mark (Err outcome) = false
marks_start mark (Ok e) = mark.start e.state

-- whether step k of the run has it, to which turn k leads
unfoldable pub is_marked : Program → Mark → ℕ → Bool
is_marked p mark zero = marks_start mark (step_of p zero)
is_marked p mark (suc j) = marks_after mark (step_of p j)

-- the mark that the code looks for
abbrev pub mark_of : Sought → Mark
mark_of (Change place) = changes place
mark_of (Shallow most) = is_shallow most
mark_of (Stops breaks watches most) = stops_at breaks.now watches.now most

-- A machine and a host at a step of a run.
use Rattle.std.specs.Prelude.{ℕ, ◌≡◌, ◌+◌, ◌-◌, ◌%◌, ◌^◌, ◌<◌, ◌≤◌, false, true, if◌then◌else◌, Option, None, Some, Ok}
use Rattle.mx_host.specs.HostModel.{HostModel}
use Rattle.mx_code.specs.declared.trace.Trace.{Trace}
use Rattle.mx_core.specs.Kept.{state_of}
use Rattle.mx_core.specs.State.{State}
use Rattle.mx_run.specs.Runs.{Ended, ended, no_flags, run}
use Rattle.mx_run.specs.Turns.{Turn, went_on, halts, stops, turn}
use Rattle.mx_run.specs.declared.end.End.{End}
use Rattle.mx_run.specs.declared.end.End.TheVariants.{Halted, Stopped, Broke, Traced, Spent, OutOfMemory}
use Rattle.mx_run.specs.declared.turn_answer.TurnAnswer.{TurnAnswer}
use Rattle.mx_run.specs.declared.turn_answer.TurnAnswer.TheVariants as answer
use Rattle.mx_replay.specs.Programs.{GoesOn, is_over, step_of}
use Rattle.mx_replay.specs.declared.program.Program.{Program}
use Rattle.mx_replay.specs.declared.visit.Visit.{Visit}

-- what the turns that were made came to
abbrev pub came_to : Visit → Ended
came_to v = ended v.end (state_of v.machine) v.host

-- it is a step of the run of this program, and no turn before it was the last one
pub record IsStep (p : Program) (v : Visit) : Type 0 where
  pub shown : step_of p v.at ≡ Ok (came_to v)
  pub made : (j : ℕ) → j < v.at → GoesOn p j

-- it is the start
pub record IsStart (p : Program) (v : Visit) : Type 0 where
  pub step : IsStep p v
  pub first : v.at ≡ 0

-- ---- one turn

-- what a turn from an address comes to: its trace where the machine went on, and the end
abbrev pub trace_of : Turn → Option Trace
trace_of (went_on s m trace) = Some trace
trace_of (halts status s m) = None
trace_of (stops reason s m) = None

abbrev pub came_by : ℕ → Turn → Ended
came_by pc (went_on s m trace) = ended Spent s m
came_by pc (halts status s m) = ended (Halted status) s m
came_by pc (stops reason s m) = ended (Stopped pc reason) s m

-- the end that a turn from an address comes to and its trace, by what it answers; nothing out of memory
abbrev pub turn_end : ℕ → TurnAnswer → Option (End × Option Trace)
turn_end pc (answer.Went trace) = Some (Spent, Some trace)
turn_end pc (answer.Halted status) = Some (Halted status, None)
turn_end pc (answer.Stopped reason) = Some (Stopped pc reason, None)
turn_end pc answer.OutOfMemory = None

-- one turn was made from what was visited
abbrev pub turn_from : Visit → Turn
turn_from v = turn (state_of v.machine) v.host

pub record MakesTurn (old new : Visit) : Type 0 where
  pub count : new.at ≡ old.at + 1
  pub came : came_to new ≡ came_by (state_of old.machine).pc (turn_from old)

-- the trace of the turn after a step, where the machine goes on with it; after the last turn there is none
abbrev pub trace_after : Ended → Option Trace
trace_after e = if is_over e.end then None else trace_of (turn e.state e.host)

-- ---- some turns

-- at most n turns from a machine and a host: this many were made, and what they came to. Fewer than n were made only where
-- the run has ended.
pub record ComesTo (s : State) (m : HostModel) (n made : ℕ) (e : Ended) : Type 0 where
  pub few : made ≤ n
  pub reached : run made no_flags false s m ≡ e
  pub early : made < n → is_over e.end ≡ true
  pub on : (j : ℕ) → j < made → (run j no_flags false s m).end ≡ Spent

-- how many turns were made by the counts of steps before and after them, which are modulo 2^64: one that stops the machine
-- is not counted there
abbrev pub uncounted : End → ℕ
uncounted (Stopped pc reason) = 1
uncounted Spent = 0
uncounted (Halted status) = 0
uncounted (Broke kind at traced) = 0
uncounted (Traced trace) = 0
uncounted OutOfMemory = 0

abbrev pub turns_told : ℕ → ℕ → End → ℕ
turns_told before after end = (after + uncounted end + (2 ^ 64 - before)) % 2 ^ 64

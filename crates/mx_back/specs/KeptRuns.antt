-- The words of clauses over a run whose last steps are kept. `old` and `new` are what the host told before and after, `before`
-- and `after` the states of the machine.
use Rattle.std.specs.Prelude.{ℕ, ◌≡◌, ◌≢◌, ◌<◌, ◌⊎◌, IsTrue, Bool, false, ◌==◌, zero, suc, List, [], ◌∷◌, if◌then◌else◌, Option, Result, Ok, Err}
use Rattle.mx_host.specs.HostModel.{HostModel, tells, contents}
use Rattle.mx_host.specs.Keeping.{Keeps}
use Rattle.mx_plan.specs.Plan.{Stops, end_of}
use Rattle.mx_core.specs.Kept.{Kept, state_of}
use Rattle.mx_core.specs.State.{State}
use Rattle.mx_core.specs.Step.{Stepped, went, calls, stopped, step}
use Rattle.mx_core.specs.Undoing.{StateWas}
use Rattle.mx_core.specs.Way.Stepping.{advanced}
use Rattle.mx_core.specs.declared.step.Advance.TheVariants as advance
use Rattle.mx_run.specs.RunPlans.{RunWorld, running, step_plan, turn_plan}
use Rattle.mx_run.specs.Runs.{IsLater, no_flags, run}
use Rattle.mx_run.specs.Runs as run_end
use Rattle.mx_run.specs.WildRuns.{HasWindow}
use Rattle.mx_run.specs.Turns.{Turn, went_on, halts, stops, turn, turn_answer}
use Rattle.mx_run.specs.declared.end.End.{End}
use Rattle.mx_run.specs.declared.end.End.TheVariants as end
use Rattle.mx_run.specs.declared.turn_answer.TurnAnswer.{TurnAnswer}
use Rattle.mx_run.specs.declared.turn_answer.TurnAnswer.TheVariants as answer
use Rattle.mx_back.specs.History.{AreNotesOf, Turned, stepped, trapped, ended, kept_turn, kept_with, states_kept, states_before}

-- ---- what is kept

-- what a turn is, where its step calls a file trap, by its answer: only the stops other than that for one page too many change
-- nothing
abbrev pub trap_kind : TurnAnswer → Turned
trap_kind (answer.Stopped reason) = if reason == 123 then trapped else ended
trap_kind other = trapped

-- what a turn is, by its step and its answer
abbrev pub turn_kind : Stepped → TurnAnswer → Turned
turn_kind (went t trace) result = stepped
turn_kind (calls call) result = trap_kind result
turn_kind (stopped reason) result = ended

abbrev pub kind_at : State → HostModel → Turned
kind_at s m = turn_kind (step s) (turn_answer (turn s m)).0

-- the turns after one, where it went on
abbrev pub turns_after : (State → HostModel → List (Turned × State)) → Turn → List (Turned × State)
turns_after more (went_on s m trace) = more s m
turns_after more (halts status s m) = []
turns_after more (stops reason s m) = []

-- the turns of a run of at most n steps, each with the state before it, the oldest first
unfoldable pub turns_of : ℕ → State → HostModel → List (Turned × State)
turns_of zero s m = []
turns_of (suc n) s m = (kind_at s m, s) ∷ turns_after (turns_of n) (turn s m)

-- over a host that tells its contents, unless there was no memory, the states that the notes represent are those that the run
-- of at most n steps keeps
abbrev pub KeepsRun : Option HostModel → State → State → ℕ → End → List StateWas → List StateWas → Type 0
KeepsRun old before after n result earlier later =
    IsTrue (tells old) → result ≢ end.OutOfMemory →
    states_before later after ≡ states_kept (turns_of n before (contents old)) (states_before earlier before)

-- whether a step calls a file trap
abbrev pub CallsTrap : Stepped → Type 0
CallsTrap (calls call) = Unit {0}
CallsTrap (went t trace) = ⊥
CallsTrap (stopped reason) = ⊥

-- What a turn without memory leaves of the machine, the host and the kept states: a note or a store lacked it, and they are as
-- they were; or a file trap did, which may have changed the machine, and nothing is kept.
abbrev pub LeavesLacking : RunWorld → RunWorld → List State → List State → Type 0
LeavesLacking reached now before kept =
    ((now ≡ reached) × (kept ≡ before)) ⊎ (CallsTrap (step reached.0) × Stops running now turn_plan reached × (kept ≡ []))

-- Out of memory this many turns of a run were made, fewer than n, and the next one lacked it: the machine, the host and the kept
-- states are those after these turns, but for what that one leaves.
pub record FrontKept (n : ℕ) (start now : RunWorld) (earlier kept : List State) : Type 0 where
  pub made : ℕ
  pub few : made < n
  pub reached : RunWorld
  pub turns : run made no_flags false start.0 start.1 ≡ run_end.ended end.Spent reached.0 reached.1
  pub left : LeavesLacking reached now (states_kept (turns_of made start.0 start.1) earlier) kept

-- the same holds over a host that tells its contents, of the states that the notes represent
abbrev pub KeepsFront : Option HostModel → Option HostModel → State → State → ℕ → End → List StateWas → List StateWas → Type 0
KeepsFront old new before after n result earlier later =
    IsTrue (tells old) → result ≡ end.OutOfMemory →
    FrontKept n (before, contents old) (after, contents new) (states_before earlier before) (states_before later after)

-- ---- on the way

-- the same holds of a step
abbrev pub KeepsTurn : Option HostModel → State → State → Result (Unit {0}) End → List StateWas → List StateWas → Type 0
KeepsTurn old before after result earlier later =
    IsTrue (tells old) → result ≢ Err end.OutOfMemory →
    states_before later after ≡ kept_turn (kind_at before (contents old)) before (states_before earlier before)

abbrev pub KeepsLacking : Option HostModel → Option HostModel → State → State → Result (Unit {0}) End → List StateWas → List StateWas → Type 0
KeepsLacking old new before after result earlier later =
    IsTrue (tells old) → result ≡ Err end.OutOfMemory →
    LeavesLacking (before, contents old) (after, contents new) (states_before earlier before) (states_before later after)

-- what comes of one step of it: where a note lacks memory, nothing changed
pub record ComesStep (old new : RunWorld) (result : Result (Unit {0}) End) : Type 0 where
  pub ending : result ≢ Err end.OutOfMemory → (result, new) ≡ end_of running (step_plan no_flags false) old
  pub stopping : result ≡ Err end.OutOfMemory → Stops running new (step_plan no_flags false) old ⊎ (new ≡ old)

abbrev pub StepsKept : Option HostModel → Option HostModel → State → State → Result (Unit {0}) End → Type 0
StepsKept old new before after result = IsTrue (tells old) → ComesStep (before, contents old) (after, contents new) result

-- what holds of it over every host: its answer, from a state over a window; one step at most; what the host keeps at every call;
-- and the notes, which fit the state and represent what the turn keeps
pub record TakesKeptStepBetween (old new : Option HostModel) (faults_before faults_after : ℕ) (before after : State) (earlier later : List StateWas) (result : Result (Unit {0}) End) : Type 0 where
  pub told : StepsKept old new before after result
  pub over : HasWindow before
  pub bound : IsLater 1 before after
  pub keeps : Keeps old new faults_before faults_after
  pub fits : AreNotesOf later after
  pub kept : KeepsTurn old before after result earlier later
  pub lacking : KeepsLacking old new before after result earlier later

-- the same of a host and a machine: `told` is what the host tells, `faults` its count of faults
abbrev pub TakesKeptStep : {H : Type 0} → (H → Option HostModel) → (H → ℕ) → H → H → Kept → Kept → List StateWas → List StateWas → Result (Unit {0}) End → Type 0
TakesKeptStep told faults old new before after earlier later result =
    TakesKeptStepBetween (told old) (told new) (faults old) (faults new) (state_of before) (state_of after) earlier later result

-- what a usual step comes to, over any host, which it leaves as it is: it is made from a state over a window, which is kept
pub record TakesUsualStep (before after : State) (earlier later : List StateWas) : Type 0 where
  pub over : HasWindow before
  pub made : (advance.Went, after) ≡ advanced before (step before)
  pub kept : states_before later after ≡ kept_with before (states_before earlier before)
  pub fits : AreNotesOf later after

-- whether the run goes on after a turn from an address, or its end
abbrev pub ended_at : ℕ → TurnAnswer → Result (Unit {0}) End
ended_at pc (answer.Went trace) = Ok tt
ended_at pc (answer.Halted status) = Err (end.Halted status)
ended_at pc (answer.Stopped reason) = Err (end.Stopped pc reason)
ended_at pc answer.OutOfMemory = Err end.OutOfMemory

-- the notes that are left, where the machine may have changed otherwise
abbrev pub notes_left : Bool → List StateWas → List StateWas
notes_left changed notes = if changed then [] else notes

abbrev pub kind_by : Bool → Turned
kind_by changed = if changed then trapped else ended

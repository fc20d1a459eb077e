-- The calls that have not returned at a step of a run.
use Rattle.std.specs.Prelude.{ℕ, zero, suc, ◌≡◌, ◌<◌, ◌-◌, ◌/◌, ◌^◌, ◌==◌, ◌||◌, Bool, if◌then◌else◌, nat_lt, List, [], ◌∷◌, ◌++◌, length, take, slice_index, Result, Ok, Err}
use Rattle.mx_host.specs.HostModel.{HostModel}
use Rattle.mx_code.specs.declared.trace.Trace.{Trace}
use Rattle.mx_core.specs.State.{State}
use Rattle.mx_ring.specs.Stack.{local_count, register}
use Rattle.mx_word.specs.Results.{map_ok}
use Rattle.mx_run.specs.Runs.{Ended}
use Rattle.mx_run.specs.Turns.{Turn, went_on, halts, stops, turn}
use Rattle.mx_run.specs.declared.end.End.{End}
use Rattle.mx_run.specs.declared.end.End.TheVariants.{Halted, Stopped, Broke, Traced, Spent, OutOfMemory}
use Rattle.mx_outcome.specs.declared.outcome.Outcome.{Outcome}
use Rattle.mx_stops.specs.Places.{depth}
use Rattle.mx_replay.specs.Programs.{step_of}
use Rattle.mx_replay.specs.declared.frames.Frame.{Frame}
use Rattle.mx_replay.specs.declared.program.Program.{Program}

-- whether a tetra is SAVE or UNSAVE
abbrev pub is_save : ℕ → Bool
is_save word = word / 2 ^ 24 == 250 || word / 2 ^ 24 == 251

-- the calls without the last one
abbrev pub without_last : List Frame → List Frame
without_last frames = take (length frames - 1) frames

-- The calls after a step that was made with this many registers hidden before and after it. One that hides registers is a call
-- (PUSHJ, PUSHGO), and one that brings some back is a return (POP). What SAVE and UNSAVE leave are no calls.
abbrev pub traced : ℕ → ℕ → Trace → List Frame → List Frame
traced before after trace frames =
    if is_save trace.word then []
    else if nat_lt before after then frames ++ record { call = trace.pc; target = trace.next; hides = after - before } ∷ []
    else if nat_lt after before then without_last frames
    else frames

-- the calls after a turn from a state; one that ends the run is none
abbrev pub turned : State → Turn → List Frame → List Frame
turned s (went_on t m trace) frames = traced (depth s) (depth t) trace frames
turned s (halts status t m) frames = frames
turned s (stops reason t m) frames = frames

abbrev pub turned_from : End → State → HostModel → List Frame → List Frame
turned_from Spent s m frames = turned s (turn s m) frames
turned_from (Halted status) s m frames = frames
turned_from (Stopped pc reason) s m frames = frames
turned_from (Broke kind at trace) s m frames = frames
turned_from (Traced trace) s m frames = frames
turned_from OutOfMemory s m frames = frames

abbrev pub turned_after : Result Ended Outcome → List Frame → List Frame
turned_after (Err outcome) frames = frames
turned_after (Ok e) frames = turned_from e.end e.state e.host frames

-- the calls that have not returned at step k, the outermost first
unfoldable pub frames_at : Program → ℕ → List Frame
frames_at p zero = []
frames_at p (suc j) = turned_after (step_of p j) (frames_at p j)

-- ---- registers

-- octas are what the local registers have, from `$0` on
pub record AreLocals (s : State) (octas : List ℕ) : Type 0 where
  pub count : length octas ≡ local_count s.stack
  pub each : (k : ℕ) → k < length octas → slice_index octas k ≡ register s.stack k

-- at step k of the run, where there is one
abbrev pub AreLocalsAt : Program → ℕ → List ℕ → Type 0
AreLocalsAt p k octas = (s : State) → map_ok (λ e. e.state) (step_of p k) ≡ Ok s → AreLocals s octas

-- A turn of one of several processors on one memory: a step, or a file trap as a whole.
use Rattle.std.specs.Prelude.{ℕ, ◌≡◌, ◌&&◌, not, Bool, true, IsTrue, List, slice_set, if◌then◌else◌}
use Rattle.mx_host.specs.HostModel.{HostModel}
use Rattle.mx_core.specs.State.{State}
use Rattle.mx_run.specs.Runs.{IsLater}
use Rattle.mx_run.specs.Turns.{Answered, turn_answer, turn}
use Rattle.mx_run.specs.WildRuns.{turn_is_wild}
use Rattle.mx_run.specs.declared.turn_answer.TurnAnswer.{TurnAnswer}
use Rattle.mx_run.specs.declared.turn_answer.TurnAnswer.TheVariants as answer
use Rattle.mx_multi.specs.Joint.{Joint, has_halted, processor, state_at, with_processor}
use Rattle.mx_multi.specs.declared.turn.Turn.{Turn}
use Rattle.mx_multi.specs.declared.turn.Turn.TheVariants.{Went, Halted, Idle, Stopped, OutOfMemory}

-- the processors and the host
abbrev pub JointWorld : Type 0
JointWorld = Joint × HostModel

-- what the turn of a processor comes to, by the answer of its step from an address
abbrev pub told_at : ℕ → TurnAnswer → Turn
told_at pc (answer.Went trace) = Went
told_at pc (answer.Halted status) = Halted status
told_at pc (answer.Stopped reason) = Stopped pc reason
told_at pc answer.OutOfMemory = OutOfMemory

-- Halt marks a processor as halted
abbrev pub halted_by : List Bool → ℕ → Turn → List Bool
halted_by halted who (Halted status) = slice_set halted who true
halted_by halted who other = halted

-- the processors after a turn that gives this answer and leaves this state of one
abbrev pub left_by : Joint → ℕ → Turn → State → Joint
left_by j who answer s = record (with_processor j who s) { halted = halted_by j.halted who answer }

abbrev pub joined : Joint → ℕ → Answered TurnAnswer → Turn × JointWorld
joined j who a =
    let answer = told_at (state_at j who).pc a.0 in (answer, (left_by j who answer a.1, a.2))

-- The turn of a processor is one step of it on the one memory, and leaves that memory to the others. A turn of one that has
-- halted does nothing.
unfoldable pub turn_of : ℕ → JointWorld → Turn × JointWorld
turn_of who w =
    if has_halted w.0.halted who then (Idle, w) else joined w.0 who (turn_answer (turn (state_at w.0 who) w.1))

-- whether the turn looks at rS or at the memory of a register stack
abbrev pub is_wild_turn : ℕ → Joint → Bool
is_wild_turn who j = not (has_halted j.halted who) && turn_is_wild (state_at j who)

-- whatever the host tells: the count of steps of this processor is up to one more, and the others are as they were; all are,
-- and the memory too, where it had halted
pub record MakesOne (who : ℕ) (old new : Joint) : Type 0 where
  pub one : IsLater 1 (processor old who) (processor new who)
  pub others : new.processors ≡ slice_set old.processors who (processor new who)
  pub idle : IsTrue (has_halted old.halted who) → new ≡ old

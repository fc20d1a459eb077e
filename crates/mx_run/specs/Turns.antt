-- A step of the machine over a host: an instruction, or a file trap as a whole.
use Rattle.std.specs.Prelude.{ℕ, ◌%◌, ◌^◌, ◌==◌, ◌||◌, ◌&&◌, Bool, true, false}
use Rattle.mx_host.specs.HostModel.{HostModel}
use Rattle.mx_ring.specs.Stack.{register}
use Rattle.mx_alu.specs.declared.call.TrapCall.{TrapCall}
use Rattle.mx_trap.specs.Answers.{stop_number}
use Rattle.mx_trap.specs.FileTraps.{trap_answer}
use Rattle.mx_trap.specs.Moves.{Leaves}
use Rattle.mx_trap.specs.Touches.{touches}
use Rattle.mx_trap.specs.declared.answer.TrapAnswer.{TrapAnswer}
use Rattle.mx_trap.specs.declared.answer.TrapAnswer.TheVariants as trap
use Rattle.mx_trap.specs.declared.answer.TrapStop.{TrapStop}
use Rattle.mx_trap.specs.declared.answer.TrapStop.TheVariants as stop
use Rattle.mx_core.specs.MachineSpace.{machine_contents, state_in}
use Rattle.mx_code.specs.Reasons.{number_of}
use Rattle.mx_core.specs.State.{State}
use Rattle.mx_core.specs.Step.{Stepped, went, calls, stopped, step}
use Rattle.mx_core.specs.Traps.{trapped, trap_trace, halted}
use Rattle.mx_code.specs.declared.trace.Trace.{Trace}
use Rattle.mx_run.specs.declared.turn_answer.TurnAnswer.{TurnAnswer}
use Rattle.mx_run.specs.declared.turn_answer.TurnAnswer.TheVariants as answer

-- what a step comes to: the machine goes on, the program halts with a status, or the machine stops for a reason
pub data Turn : Type 0 where
  went_on : State → HostModel → Trace → Turn
  halts : ℕ → State → HostModel → Turn
  stops : ℕ → State → HostModel → Turn

-- the octas of the stack area
abbrev pub area_size : ℕ
area_size = 2 ^ 20

-- a trap that looks at Stack_Segment touches, unless it stops; a stop within its moves touches all the same
abbrev pub with_touch_if : Bool → State → State
with_touch_if touching s = record s { touched = s.touched || touching }

abbrev pub moves_before : TrapStop → Bool
moves_before stop.TrapPagesFull = true
moves_before other = false

-- the status of a program that halts
abbrev pub status_of : State → ℕ
status_of s = register s.stack 255 % 2 ^ 8

-- whether a file trap with this answer may have changed the machine: one whose request is refused changes nothing
abbrev pub moves_bytes : TrapAnswer → Bool
moves_bytes (trap.Stopped why) = moves_before why
moves_bytes other = true

-- the same by what its turn answers: only a stop other than that for one page too many leaves the machine as it was
abbrev pub may_change : TurnAnswer → Bool
may_change (answer.Stopped reason) = reason == 123
may_change other = true

-- the state with what a trap left of memory, and what the trap's answer makes of it
abbrev pub turn_with : Bool → TrapCall → State → HostModel → TrapAnswer → Turn
turn_with touching call s m (trap.Value value) =
    went_on (with_touch_if touching (trapped s call value)) m (trap_trace s call value)
turn_with touching call s m trap.Halt = halts (status_of s) (with_touch_if touching (halted s)) m
turn_with touching call s m (trap.Stopped why) = stops (stop_number why) (with_touch_if (touching && moves_before why) s) m
-- a definition never answers this
turn_with touching call s m trap.OutOfMemory = stops 0 s m

abbrev pub trap_turn : Bool → TrapCall → Leaves TrapAnswer State → Turn
trap_turn touching call (answer, c, m) = turn_with touching call (state_in c area_size) m answer

-- what a step of the machine comes to, over a host
abbrev pub turn_of : State → HostModel → Stepped → Turn
turn_of s m (went t trace) = went_on t m trace
turn_of s m (stopped reason) = stops (number_of reason) s m
turn_of s m (calls call) =
    trap_turn (touches (machine_contents s).bytes call) call (trap_answer (machine_contents s) m call)

unfoldable pub turn : State → HostModel → Turn
turn s m = turn_of s m (step s)

-- an answer, and the state and the model after it
abbrev pub Answered : Type 0 → Type 0
Answered A = A × State × HostModel

-- what a turn answers and leaves
abbrev pub turn_answer : Turn → Answered TurnAnswer
turn_answer (went_on s m trace) = (answer.Went trace, s, m)
turn_answer (halts status s m) = (answer.Halted status, s, m)
turn_answer (stops reason s m) = (answer.Stopped reason, s, m)

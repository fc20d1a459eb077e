-- Turns that look at rS or at the memory of the register stack; runs of the machine over a window, and of the machine
-- over the list that it represents.
use Rattle.std.specs.Prelude.{ℕ, ◌||◌, Bool, false}
use Rattle.mx_host.specs.HostModel.{HostModel}
use Rattle.mx_plan.specs.Wild.{Course, ends, course, unless_wild}
use Rattle.mx_ring.specs.Window.{Window}
use Rattle.mx_word.specs.Ranges.{AreOctas}
use Rattle.mx_trap.specs.Touches.{touches}
use Rattle.mx_core.specs.Bounds.{IsMachine, as_list_state}
use Rattle.mx_core.specs.MachineSpace.{machine_contents}
use Rattle.mx_core.specs.State.{State}
use Rattle.mx_core.specs.Step.{Stepped, went, calls, stopped, step}
use Rattle.mx_core.specs.Wild.{is_wild}
use Rattle.mx_run.specs.Ends.{FlagsOf, Ended}
use Rattle.mx_run.specs.RunPlans.{RunCall, turning, looking, RunSays, RunWorld, running, run_plan}
use Rattle.mx_run.specs.Turns.{Turn, went_on, halts, stops}
use Rattle.mx_run.specs.declared.end.End.{End}

-- WILD TURNS

-- whether a file trap that is called touches Stack_Segment
abbrev pub trap_touches : State → Stepped → Bool
trap_touches s (calls call) = touches (machine_contents s).bytes call
trap_touches s (went t trace) = false
trap_touches s (stopped reason) = false

-- whether the next step is wild, or the file trap that it calls
abbrev pub turn_is_wild : State → Bool
turn_is_wild s = is_wild s || trap_touches s (step s)

-- BOTH MACHINES

-- the two machines: over a window of registers, and over the unbounded list that it represents
pub data MachineKind : Type 0 where
  window_machine : MachineKind
  list_machine : MachineKind

-- whether the machine of a kind goes no further at a state: only the list machine, where the next turn is wild
abbrev pub ends_wild : MachineKind → State → Bool
ends_wild window_machine s = false
ends_wild list_machine s = turn_is_wild s

-- whether a call would be wild: a turn may be; a look never is
abbrev pub call_is_wild : MachineKind → RunCall → RunWorld → Bool
call_is_wild kind turning w = ends_wild kind w.0
call_is_wild kind looking w = false

abbrev pub run_goes : MachineKind → (o : RunCall) → RunWorld → Course (RunSays o) RunWorld
run_goes kind o w = unless_wild (call_is_wild kind) running o w

-- at most n steps of the machine of a kind, with these flags, as `run`: they end, or the list machine meets a wild turn, which it does
-- not make
unfoldable pub run_by : MachineKind → ℕ → FlagsOf → Bool → State → HostModel → Course End RunWorld
run_by kind n f pass s m = course (run_goes kind) (run_plan n f pass) (s, m)

-- a run that ended so, as what it came to
abbrev pub run_ended : Ended → Course End RunWorld
run_ended e = ends e.end (e.state, e.host)

-- WINDOWS

-- a machine over some window of octas, as every machine of the code is
pub record HasWindow (s : State) : Type 0 where
  pub window : Window
  pub machine : IsMachine s window
  pub octas : AreOctas window.hidden.stack

-- LISTS

abbrev pub as_list_turn : Turn → Turn
as_list_turn (went_on s m trace) = went_on (as_list_state s) m trace
as_list_turn (halts status s m) = halts status (as_list_state s) m
as_list_turn (stops reason s m) = stops reason (as_list_state s) m

-- WHAT A TURN LEAVES

abbrev pub state_after : Turn → State
state_after (went_on s m trace) = s
state_after (halts status s m) = s
state_after (stops reason s m) = s

abbrev pub host_after : Turn → HostModel
host_after (went_on s m trace) = m
host_after (halts status s m) = m
host_after (stops reason s m) = m

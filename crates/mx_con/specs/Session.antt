-- What a session comes to by the kind of its machine: over a window of registers, and over the list that it represents, which goes no
-- further at a turn or at a command that is wild.
use Rattle.std.specs.Prelude.{ℕ, Bool, false, if◌then◌else◌, Option}
use Rattle.mx_host.specs.HostModel.{HostModel}
use Rattle.mx_plan.specs.Wild.{Course, ends, meets_wild, course, carried}
use Rattle.mx_cmd.specs.declared.command.Command.{Command}
use Rattle.mx_core.specs.State.{State}
use Rattle.mx_run.specs.WildRuns.{run_goes, run_by}
use Rattle.mx_run.specs.RunPlans.{turning, RunWorld}
use Rattle.mx_run.specs.Runs.{FlagsOf}
use Rattle.mx_run.specs.WildRuns.{MachineKind, window_machine, list_machine}
use Rattle.mx_con.specs.Judgement.{command_wild}
use Rattle.mx_con.specs.SessionPlans.{SessionCall, of_turn, of_run, replying, SessionSays, SessionWorld, conversing, session_plan}
use Rattle.mx_con.specs.declared.end.SessionEnd.{SessionEnd}

-- ---- what each call comes to

-- a run beside the flags, which it leaves as they are
abbrev pub keeping_flags : {A : Type 0} → FlagsOf → Course A RunWorld → Course A SessionWorld
keeping_flags f (ends a w) = ends a (w, f)
keeping_flags f (meets_wild w) = meets_wild (w, f)

-- whether the machine of a kind goes no further at a good command
abbrev pub command_ends_wild : MachineKind → Option ℕ → Command → Bool
command_ends_wild window_machine shown command = false
command_ends_wild list_machine shown command = command_wild shown command

abbrev pub session_goes : MachineKind → (o : SessionCall) → SessionWorld → Course (SessionSays o) SessionWorld
session_goes kind of_turn w = keeping_flags w.1 (run_goes kind turning w.0)
session_goes kind (of_run n pass) w = keeping_flags w.1 (run_by kind n w.1 pass w.0.0 w.0.1)
session_goes kind (replying shown command) w =
    if command_ends_wild kind shown command then meets_wild w else carried conversing (replying shown command) w
session_goes kind other w = carried conversing other w

-- ---- sessions

-- A session of the machine of a kind from these flags on, with at most this many steps of the machine in all: it ends, or it meets
-- something wild, which is not done.
unfoldable pub session : MachineKind → ℕ → State → FlagsOf → HostModel → Course SessionEnd SessionWorld
session kind steps s f m = course (session_goes kind) (session_plan steps) ((s, m), f)

-- a session that ended so, as what it came to
abbrev pub session_ended : SessionEnd × SessionWorld → Course SessionEnd SessionWorld
session_ended t = ends t.0 t.1

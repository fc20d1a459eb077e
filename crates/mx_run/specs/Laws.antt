-- The words of the laws of runs.
use Rattle.std.specs.Prelude.{ℕ, ◌≡◌, Bool, false}
use Rattle.mx_host.specs.HostModel.{HostModel}
use Rattle.mx_plan.specs.Plan.{end_of}
use Rattle.mx_plan.specs.Wild.{Course}
use Rattle.mx_core.specs.Bounds.{as_list_state}
use Rattle.mx_core.specs.State.{State}
use Rattle.mx_run.specs.RunPlans.{RunWorld, run_plan, running}
use Rattle.mx_run.specs.Runs.{FlagsOf, no_flags}
use Rattle.mx_run.specs.Turns.{turn}
use Rattle.mx_run.specs.WildRuns.{MachineKind, as_list_turn, run_by}
use Rattle.mx_run.specs.declared.end.End.{End}

-- the list that a machine represents makes the same turn
abbrev pub TurnsAlike : State → HostModel → Type 0
TurnsAlike s m = turn (as_list_state s) m ≡ as_list_turn (turn s m)

-- a run without flags
abbrev pub free_run : MachineKind → ℕ → State → HostModel → Course End RunWorld
free_run kind n s m = run_by kind n no_flags false s m

-- what the plan of a run comes to
abbrev pub plan_end : ℕ → FlagsOf → Bool → State → HostModel → End × RunWorld
plan_end n f pass s m = end_of running (run_plan n f pass) (s, m)

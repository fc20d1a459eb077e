-- What follows a run, over the host alone, with the machine and the states that are kept as they then are: the functions that do it have
-- these plans. In the work on a machine (`MachineWork`) a plan looks at lines, and has no state in it.
use Rattle.std.specs.Prelude.{ℕ, ◌&&◌, Bool, if◌then◌else◌, List, [], ◌∷◌, Result, Ok, Err}
use Rattle.mx_plan.specs.Plan.{returns, bind}
use Rattle.mx_plan.specs.Calls.{HostPlan}
use Rattle.mx_core.specs.State.{State}
use Rattle.mx_ring.specs.Stack.{register}
use Rattle.mx_gen.specs.Generator.{summary}
use Rattle.mx_outcome.specs.Kinds.{leaves_machine}
use Rattle.mx_outcome.specs.declared.outcome.Outcome.{Outcome}
use Rattle.mx_outcome.specs.declared.outcome.Outcome.TheVariants.{Done}
use Rattle.mx_files.specs.FilePlans.{lines_plan}
use Rattle.mx_dump.specs.Dump.{dump_lines}
use Rattle.mx_top.specs.Runs.{is_done, takes_back, state_lines, reached}
use Rattle.mx_top.specs.Telling.{telling}

unfoldable pub dumped_plan : Bool → Outcome → State → HostPlan Outcome
dumped_plan dump outcome s = if dump && leaves_machine outcome then telling outcome (dump_lines s) else returns outcome

-- these states come back: they have their lines, and the dump is that of the last of them
abbrev pub then_dumped : Bool → Outcome → State → Result (Unit {0}) Outcome → HostPlan Outcome
then_dumped dump outcome s (Ok u) = dumped_plan dump outcome s
then_dumped dump outcome s (Err other) = returns other

unfoldable pub back_plan : Bool → Outcome → List State → State → HostPlan Outcome
back_plan dump outcome states s =
    if takes_back outcome then bind (then_dumped dump outcome (reached s states)) (lines_plan (state_lines states)) else dumped_plan dump outcome s

abbrev pub summed_plan : ℕ → ℕ → Outcome → State → HostPlan Outcome
summed_plan blocks size outcome s = if is_done outcome then telling (Done 0) (summary blocks size s.steps (register s.stack 255) ∷ []) else returns outcome

-- What comes of a plan of a run over both machines: over a window of registers, and over the list that it represents, which goes no further
-- at a turn that is wild.
use Rattle.std.specs.Prelude.{◌≡◌, false, IsTrue, Option}
use Rattle.mx_word.specs.Lists.{IsFront}
use Rattle.mx_host.specs.HostModel.{HostModel, tells, contents}
use Rattle.mx_plan.specs.Wild.{ComesBoth, IsRestBoth}
use Rattle.mx_core.specs.Bounds.{as_list_state}
use Rattle.mx_core.specs.State.{State}
use Rattle.mx_run.specs.RunPlans.{RunWorld, RunPlan, running}
use Rattle.mx_run.specs.WildRuns.{list_machine, run_goes}

-- the world of the list machine; where both go alike; and where something wild was passed: standard output still begins with what
-- was written then
abbrev pub as_list_world : RunWorld → RunWorld
as_list_world w = (as_list_state w.0, w.1)

abbrev pub IsUntouched : RunWorld → Type 0
IsUntouched w = w.0.touched ≡ false

abbrev pub WritesOn : RunWorld → RunWorld → Type 0
WritesOn v w = IsFront v.1.output w.1.output

-- what comes of a plan of a run over both machines
abbrev pub RunsBoth : {A : Type 0} → RunWorld → RunWorld → A → A → RunPlan A → Type 0
RunsBoth old new none result plan = ComesBoth running (run_goes list_machine) as_list_world IsUntouched WritesOn old new none result plan

-- the same holds over a host that tells its contents
abbrev pub CarriesOutOnBothMachines : {A : Type 0} → Option HostModel → Option HostModel → State → State → A → A → RunPlan A → Type 0
CarriesOutOnBothMachines old new before after none result plan = IsTrue (tells old) → RunsBoth (before, contents old) (after, contents new) none result plan

-- what is left of a run over both machines
abbrev pub RestsBoth : {A : Type 0} → RunPlan A → RunWorld → RunPlan A → RunWorld → Type 0
RestsBoth rest now whole start = IsRestBoth running (run_goes list_machine) as_list_world IsUntouched WritesOn rest now whole start

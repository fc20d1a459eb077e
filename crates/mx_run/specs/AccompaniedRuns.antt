-- Runs that something goes along with: watchers are told of their steps, or notes of these are kept. That changes nothing in
-- the run, but it may lack memory between two steps.
use Rattle.std.specs.Prelude.{ℕ, ◌≡◌, ◌≢◌, ◌≤◌, ◌⊎◌, IsTrue, false, Option}
use Rattle.mx_host.specs.HostModel.{HostModel, tells, contents}
use Rattle.mx_plan.specs.Plan.{Stops, end_of}
use Rattle.mx_plan.specs.Wild.{Course}
use Rattle.mx_core.specs.Bounds.{as_list_state}
use Rattle.mx_core.specs.Kept.{Kept, state_of}
use Rattle.mx_core.specs.State.{State}
use Rattle.mx_run.specs.RunPlans.{RunWorld, running, run_plan}
use Rattle.mx_run.specs.Runs.{ended, no_flags, run}
use Rattle.mx_run.specs.WildRuns.{list_machine, run_by}
use Rattle.mx_run.specs.declared.end.End.{End}
use Rattle.mx_run.specs.declared.end.End.TheVariants.{OutOfMemory, Spent}

-- the machine and the host after completed steps, at most n
pub record AfterSteps (n : ℕ) (start now : RunWorld) : Type 0 where
  pub made : ℕ
  pub few : made ≤ n
  pub steps : run made no_flags false start.0 start.1 ≡ ended Spent now.0 now.1

-- What comes of such a run of at most n steps. Unless there was no memory, the end, the machine and the host are those of the
-- run. Where a step lacked it, they are as the run may stop; where what goes along did, the steps up to there are completed,
-- and nothing else changed.
pub record ComesAccompanied (n : ℕ) (old new : RunWorld) (result : End) : Type 0 where
  pub ending : result ≢ OutOfMemory → (result, new) ≡ end_of running (run_plan n no_flags false) old
  pub stopping : result ≡ OutOfMemory → Stops running new (run_plan n no_flags false) old ⊎ AfterSteps n old new

-- the same holds over a host that tells its contents: `told` is what it tells; the host and the machine are those before and after
abbrev pub CarriesOutAccompanied : {H : Type 0} → (H → Option HostModel) → H → H → Kept → Kept → ℕ → End → Type 0
CarriesOutAccompanied told old new before after n result =
    IsTrue (tells (told old)) → ComesAccompanied n (state_of before, contents (told old)) (state_of after, contents (told new)) result

-- what the list machine comes to in at most n steps, with no flags, from the list that a state represents
abbrev pub list_run : Option HostModel → State → ℕ → Course End RunWorld
list_run old before n = run_by list_machine n no_flags false (as_list_state before) (contents old)

-- Commands without a run that watchers are told of.
use Rattle.std.proofs.Common.{◌≡◌, ℕ, [], ◌∷◌, length, Ok, Err, refl, ◌∙◌, ap, codes}
use Rattle.std.specs.Prelude.{Result}
use Rattle.mx_host.specs.HostModel.{HostModel}
use Rattle.mx_host.specs.HostAnswer.{Then}
use Rattle.mx_plan.specs.Calls.{host, HostPlan}
use Rattle.mx_plan.specs.Plan.{returns, bind, end_of}
use Rattle.mx_mmo.specs.Image.{Image}
use Rattle.mx_core.specs.State.{State}
use Rattle.mx_run.specs.WildRuns.{MachineKind}
use Rattle.mx_words.specs.declared.order.Order.{Order}
use Rattle.mx_gen.specs.Generator.{generated}
use Rattle.mx_files.specs.FilePlans.{Part}
use Rattle.mx_files.specs.Schedules.{schedule_plan}
use Rattle.mx_files.specs.Sources.{source_meaning}
use Rattle.mx_files.specs.declared.refusal.Refusal.{Refusal}
use Rattle.mx_outcome.specs.declared.outcome.Outcome.{Outcome}
use Rattle.mx_begin.specs.Arguments.{Word}
use Rattle.mx_begin.specs.BeginPlans.{image_file_plan}
use Rattle.mx_begin.specs.Begun.{started}
use Rattle.mx_begin.specs.declared.images.Form.TheVariants.{Object}
use Rattle.mx_top.specs.Endings as end
use Rattle.mx_top.specs.MachineWork as work
use Rattle.mx_top.specs.MachineWork.{generated_work}
use Rattle.mx_top.specs.Product.{ProgramPlan, host_in_program, on_part, taking, work_on, run_source, run_text, turns_on, turns_from, object_file, multi_file, told_of}
use Rattle.mx_top.specs.Runs.{generator_steps}
use Rattle.mx_top.specs.WorkClauses.{told_by}
use Rattle.mx_top.proofs.Followed.{to-summed}
use Rattle.mx_top.proofs.ListedPlans.{run-told}
use Rattle.mx_top.proofs.TurnsMade.{turns-told}
use Rattle.mx_top.proofs.WorkParts.{run-on}
use Rattle.mx_top.proofs.WorkPlans.{host-bind, host-course, returns-course, taking-course}

pub host-quiet : (kind : MachineKind) (p : HostPlan Outcome) (m : HostModel) → told_by kind (host_in_program p) m ≡ []
host-quiet kind p m = ap told_of (host-course kind p (m, []))

pub returns-quiet : (kind : MachineKind) (r : Outcome) (m : HostModel) → told_by kind (returns r) m ≡ []
returns-quiet kind r m = ap told_of (returns-course kind r (m, []))

taking-quiet : (kind : MachineKind) (p : ProgramPlan Outcome) (m : HostModel) → told_by kind p m ≡ [] → told_by kind (taking p) m ≡ []
taking-quiet kind p m none = ap told_of (taking-course kind p (m, [])) ∙ none

part-quiet : {A : Type 0} (kind : MachineKind) (f : A → ProgramPlan Outcome) (p : Part A) (m : HostModel) → ((x : A) (n : HostModel) → told_by kind (f x) n ≡ []) → told_by kind (bind (on_part f) (host_in_program p)) m ≡ []
part-quiet {A} kind f p m none = ap told_of (host-bind kind (on_part f) p (m, [])) ∙ by (end_of host p m)
  where
    by : (t : Then (Result A Outcome)) → told_by kind (on_part f t.0) t.1 ≡ []
    by (Ok x, n) = none x n
    by (Err r, n) = returns-quiet kind r n

-- ---- `gen`

started-quiet : (kind : MachineKind) (blocks size : ℕ) (r : Result State Outcome) (m : HostModel) → told_of (work_on kind (generated_work blocks size) r (m, [])) ≡ []
started-quiet kind blocks size (Ok s) m = run-told kind generator_steps s m (work.summed_plan blocks size) (λ o s kept. end.summed_plan blocks size o s) (to-summed blocks size)
started-quiet kind blocks size (Err r) m = refl

source-quiet : (kind : MachineKind) (o : Order) (size : ℕ) (r : Result Image Refusal) (m : HostModel) → told_by kind (run_source o size r) m ≡ []
source-quiet kind o size (Ok image) m =
    ap told_of (run-on kind o.ring (codes "gen" ∷ []) (generated_work o.number size) image (m, [])) ∙ started-quiet kind o.number size (started kind o.ring image (codes "gen" ∷ [])) m
source-quiet kind o size (Err refusal) m = returns-quiet kind _ m

pub gen-quiet : (kind : MachineKind) (o : Order) (m : HostModel) → told_by kind (taking (run_text o (generated o.number))) m ≡ []
gen-quiet kind o m =
    taking-quiet kind (run_text o (generated o.number)) m (taking-quiet kind (run_source o (length (generated o.number)) (source_meaning (generated o.number))) m (source-quiet kind o (length (generated o.number)) (source_meaning (generated o.number)) m))

-- ---- `multi`

pub multi-quiet : (kind : MachineKind) (o : Order) (schedule object : Word) (m : HostModel) → told_by kind (multi_file o schedule object) m ≡ []
multi-quiet kind o schedule object m =
    part-quiet kind (object_file o object) (schedule_plan schedule) m (λ bytes n. part-quiet kind (turns_on o bytes) (image_file_plan Object object) n (λ image k. taking-quiet kind (turns_from o bytes image) k (turns-told kind o bytes image k)))

-- What an order makes of a machine, by which work it chooses.
use Rattle.std.proofs.Common.{IsTrue, ◌≡◌, ◌≢◌, ℕ, false, List, take, sym, ◌∙◌, ap, subst}
use Rattle.std.specs.Prelude.{Option}
use Rattle.mx_host.specs.HostModel.{HostModel, tells, contents}
use Rattle.mx_core.specs.Bounds.{as_list_state}
use Rattle.mx_run.specs.Runs.{no_flags}
use Rattle.mx_run.specs.WildRuns.{MachineKind, window_machine, list_machine, run_by}
use Rattle.mx_watch.specs.Hearing.{Hears, heard_by}
use Rattle.mx_watch.specs.Traces.{traces}
use Rattle.mx_watch.specs.WatchedRuns.{UnlessWild}
use Rattle.mx_watch.proofs.HeardBy.{hears-by}
use Rattle.mx_outcome.specs.declared.outcome.Outcome.TheVariants.{OutOfMemory}
use Rattle.mx_top.specs.Product.{told_of}
use Rattle.mx_core.specs.State.{State}
use Rattle.mx_watch.specs.Watching.{Watching}
use Rattle.mx_watch.specs.declared.telling.Report.{Report}
use Rattle.mx_words.specs.declared.order.Order.{Order}
use Rattle.mx_outcome.specs.declared.outcome.Outcome.{Outcome}
use Rattle.mx_top.specs.Endings as end
use Rattle.mx_top.specs.MachineWork as work
use Rattle.mx_top.specs.MachineWork.{WorkPlan}
use Rattle.mx_begin.specs.Ends.{outcome_of}
use Rattle.mx_top.specs.WorkClauses.{DoesWork, HearsWork, work_by}
use Rattle.mx_top.proofs.Followed.{to-dumped, to-back}
use Rattle.mx_top.proofs.Heard.{quiet-work}
use Rattle.mx_top.proofs.ListedPlans.{run-told, reported-told, reported-heard, kept-told, session-told}
use Rattle.mx_top.proofs.MachinePlans.{told-taking}

pub chosen-work : {H : Type 0} (told : H → Option HostModel) (faults : H → ℕ) (old new : H) (s : State) (r : Outcome) (plan part : WorkPlan Outcome) → plan ≡ part → DoesWork told faults old new s r part → DoesWork told faults old new s r plan
chosen-work told faults old new s r plan part e h = subst (λ (p : WorkPlan Outcome). DoesWork told faults old new s r p) (sym e) h

pub chosen-heard : (a : Option HostModel) (s : State) (r : Outcome) (ws left : List Watching) (earlier later : List Report) (plan part : WorkPlan Outcome) → plan ≡ part → HearsWork a s r ws left earlier later part → HearsWork a s r ws left earlier later plan
chosen-heard a s r ws left earlier later plan part e h = subst (λ (p : WorkPlan Outcome). HearsWork a s r ws left earlier later p) (sym e) h

-- watchers are told nothing of these
pub session-quiet : (a : Option HostModel) (s : State) (r : Outcome) (ws : List Watching) (earlier : List Report) (o : Order) → HearsWork a s r ws ws earlier earlier (work.sitting_plan o)
session-quiet a s r ws earlier o = quiet-work a s r ws earlier (work.sitting_plan o) (λ kind t m. session-told kind o.steps t m (work.dumped_plan o.dump) (λ x u kept. end.dumped_plan o.dump x u) (to-dumped o.dump))

pub stepped-quiet : (a : Option HostModel) (s : State) (r : Outcome) (ws : List Watching) (earlier : List Report) (o : Order) → HearsWork a s r ws ws earlier earlier (work.stepped_plan o)
stepped-quiet a s r ws earlier o = quiet-work a s r ws earlier (work.stepped_plan o) (λ kind t m. run-told kind o.steps t m (work.dumped_plan o.dump) (λ x u kept. end.dumped_plan o.dump x u) (to-dumped o.dump))

pub kept-quiet : (a : Option HostModel) (s : State) (r : Outcome) (ws : List Watching) (earlier : List Report) (o : Order) → HearsWork a s r ws ws earlier earlier (work.kept_plan o)
kept-quiet a s r ws earlier o =
    quiet-work a s r ws earlier (work.kept_plan o) (λ kind t m. told-taking kind (work.calling (work.keeping o.steps) (λ x. work.back_plan o (outcome_of o.steps x))) t m
    ∙ kept-told kind o.steps t m (work.back_plan o) (λ x u kept. end.back_plan o.dump x (take o.last kept) u) (to-back o))

-- and of this what the run makes
pub reported-hears : (a : Option HostModel) (s : State) (r : Outcome) (ws left : List Watching) (earlier later : List Report) (o : Order) → (IsTrue (tells a) → r ≢ OutOfMemory → Hears (traces window_machine o.steps s (contents a)) ws left earlier later) →
    (IsTrue (tells a) → r ≢ OutOfMemory → UnlessWild (run_by list_machine o.steps no_flags false (as_list_state s) (contents a)) (Hears (traces list_machine o.steps (as_list_state s) (contents a)) ws left earlier later)) → HearsWork a s r ws left earlier later (work.reported_plan o)
reported-hears a s r ws left earlier later o window list = (
  λ t ne. hears-by (traces window_machine o.steps s (contents a)) ws left earlier later (window t ne) ∙ told window_machine s,
  λ t ne.
      reported-heard o.steps (as_list_state s) (contents a) (work.dumped_plan o.dump) (λ x u kept. end.dumped_plan o.dump x u) (Hears (traces list_machine o.steps (as_list_state s) (contents a)) ws left earlier later) _ (to-dumped o.dump)
      (λ h. hears-by (traces list_machine o.steps (as_list_state s) (contents a)) ws left earlier later h ∙ told list_machine (as_list_state s)) (list t ne),
)
  where
    told : (kind : MachineKind) (u : State) → heard_by (traces kind o.steps u (contents a)) ws earlier ≡ heard_by (told_of (work_by kind (work.reported_plan o) u (contents a))) ws earlier
    told kind u = ap (λ ts. heard_by ts ws earlier) (sym (reported-told kind o.steps u (contents a) (work.dumped_plan o.dump) (λ x v kept. end.dumped_plan o.dump x v) (to-dumped o.dump)))

use Rattle.std.proofs.Common.{◌≢◌, subst, sym, ap}
use Rattle.std.specs.Prelude.{IsTrue}
use Rattle.mx_host.specs.HostModel.{contents}
use Rattle.mx_core.specs.Kept.{state_of}
use Rattle.mx_outcome.specs.declared.outcome.Outcome.TheVariants.{OutOfMemory}
use Rattle.mx_top.specs.Endings as end
use Rattle.mx_top.specs.MachineWork as work
use Rattle.mx_top.proofs.Caused.{fails-after}
use Rattle.mx_top.proofs.Dumped.{same-dumped}
use Rattle.mx_top.proofs.Followed.{to-dumped}
use Rattle.mx_top.proofs.ListedPlans.{reported-listed}
use Rattle.mx_top.proofs.MachinePlans.{reported-follows}
use Rattle.mx_top.proofs.Chosen.{reported-hears}
use Rattle.mx_top.proofs.run.run_told.Goals as goal

pub returns-clause-part : goal.returns-clause-part
returns-clause-part g c =
    let after = state_of c.run_with_watchers-end.new.machine in
    let told = c.tell_end.ensures in
    let some : c.tell_end.result ≢ OutOfMemory → c.outcome_of.result ≢ OutOfMemory = λ ne e. ne (told.lacked e).0 in
    record {
      both = record {
        window = λ t.
            reported-follows c.args.order.now.steps (state_of c.args.machine) after _ _ _ c.run_with_watchers-end.result c.outcome_of.result c.tell_end.result
            (work.dumped_plan c.args.order.now.dump) (λ o s kept. end.dumped_plan c.args.order.now.dump o s) (to-dumped c.args.order.now.dump) c.outcome_of.ensures.value (c.run_with_watchers-end.ensures.plan t)
            (λ e. let none = told.lacked e in (none.0, ap (λ h. contents (g.H.Host.told h)) none.1))
            (λ ne. told.plan ne (subst IsTrue (sym c.run_with_watchers-end.ensures.run.keeps.telling) t));
        list = λ t ne.
            let there = subst IsTrue (sym c.run_with_watchers-end.ensures.run.keeps.telling) t in
            reported-listed c.args.order.now.steps (state_of c.args.machine) after _ _ _ c.run_with_watchers-end.result c.outcome_of.result c.tell_end.result
            (work.dumped_plan c.args.order.now.dump) (λ o s kept. end.dumped_plan c.args.order.now.dump o s) (to-dumped c.args.order.now.dump) c.outcome_of.ensures.value (c.run_with_watchers-end.ensures.run.listed t (λ e. some ne (c.outcome_of.ensures.memory e)) c.requires) (told.causes.3.growing there)
            (same-dumped c.args.order.now.dump c.outcome_of.result after) ((told.plan (some ne) there).ending ne);
      };
      causes = fails-after g.H.Host.told g.H.Host.faults _ _ _ _ c.run_with_watchers-end.ensures.run.keeps told.causes;
    }

pub returns-clause-heard : goal.returns-clause-heard
returns-clause-heard g c =
    let some : c.tell_end.result ≢ OutOfMemory → c.outcome_of.result ≢ OutOfMemory = λ ne e. ne (c.tell_end.ensures.lacked e).0 in
    reported-hears _ _ _ _ _ _ _ c.args.order.now (λ t ne. c.run_with_watchers-end.ensures.heard t (λ e. some ne (c.outcome_of.ensures.memory e)))
    (λ t ne. c.run_with_watchers-end.ensures.list_heard t (λ e. some ne (c.outcome_of.ensures.memory e)) c.requires)

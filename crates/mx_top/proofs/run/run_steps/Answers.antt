use Rattle.std.proofs.Common.{◌≡◌, ◌≢◌, false, subst, sym, ap}
use Rattle.std.specs.Prelude.{IsTrue}
use Rattle.mx_host.specs.HostModel.{contents}
use Rattle.mx_core.specs.Kept.{Kept, state_of}
use Rattle.mx_outcome.specs.declared.outcome.Outcome.TheVariants.{OutOfMemory}
use Rattle.mx_top.specs.Endings as end
use Rattle.mx_top.specs.MachineWork as work
use Rattle.mx_top.proofs.Caused.{fails-after}
use Rattle.mx_top.proofs.Dumped.{same-dumped}
use Rattle.mx_top.proofs.Followed.{to-dumped}
use Rattle.mx_top.proofs.ListedPlans.{run-listed}
use Rattle.mx_top.proofs.MachinePlans.{run-follows}
use Rattle.mx_top.proofs.run.run_steps.Goals as goal

pub returns : goal.returns
returns g c =
    let after = state_of c.go-end.new.self.machine in
    let told = c.tell_end.ensures in
    let some : c.tell_end.result ≢ OutOfMemory → c.outcome_of.result ≢ OutOfMemory = λ ne e. ne (told.lacked e).0 in
    record {
      both = record {
        window = λ t.
            run-follows c.args.order.now.steps _ (state_of c.args.machine) after _ _ _ c.go-end.result c.outcome_of.result c.tell_end.result
            (work.dumped_plan c.args.order.now.dump) (λ o s kept. end.dumped_plan c.args.order.now.dump o s) (to-dumped c.args.order.now.dump) c.new-runner.ensures.flags c.outcome_of.ensures.value (rw c.new-runner.ensures.machine at (c.go-end.ensures.plan t))
            (λ e. let none = told.lacked e in (none.0, ap (λ h. contents (g.H.Host.told h)) none.1))
            (λ ne. rw c.machine.ensures at (told.plan ne (subst IsTrue (sym c.go-end.ensures.run.keeps.telling) t)));
        list = λ t ne.
            let there = subst IsTrue (sym c.go-end.ensures.run.keeps.telling) t in
            let untouched = subst (λ (k : Kept). (state_of k).touched ≡ false) (sym c.new-runner.ensures.machine) c.requires in
            run-listed c.args.order.now.steps _ (state_of c.args.machine) after _ _ _ c.go-end.result c.outcome_of.result c.tell_end.result
            (work.dumped_plan c.args.order.now.dump) (λ o s kept. end.dumped_plan c.args.order.now.dump o s) (to-dumped c.args.order.now.dump) c.new-runner.ensures.flags c.outcome_of.ensures.value
            (rw c.new-runner.ensures.machine at (c.go-end.ensures.run.listed t (λ e. some ne (c.outcome_of.ensures.memory e)) untouched)) (told.causes.3.growing there)
            (same-dumped c.args.order.now.dump c.outcome_of.result after) ((rw c.machine.ensures at (told.plan (some ne) there)).ending ne);
      };
      causes = fails-after g.H.Host.told g.H.Host.faults _ _ _ _ c.go-end.ensures.run.keeps told.causes;
    }

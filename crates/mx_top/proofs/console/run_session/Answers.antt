use Rattle.std.proofs.Common.{◌≡◌, ◌≢◌, false, refl, subst, sym, ap}
use Rattle.std.specs.Prelude.{IsTrue}
use Rattle.mx_host.specs.HostModel.{contents}
use Rattle.mx_con.specs.declared.end.SessionEnd.TheVariants as sitting
use Rattle.mx_core.specs.Kept.{Kept, state_of}
use Rattle.mx_outcome.specs.declared.outcome.Outcome.TheVariants.{HostFault, OutOfMemory}
use Rattle.mx_word.proofs.Fronts.{front-self}
use Rattle.mx_top.specs.Runs.{session_outcome}
use Rattle.mx_top.specs.Endings as end
use Rattle.mx_top.specs.MachineWork as work
use Rattle.mx_top.proofs.Caused.{fails-after}
use Rattle.mx_top.proofs.Dumped.{same-dumped, undumped-fault}
use Rattle.mx_top.proofs.Followed.{to-dumped}
use Rattle.mx_top.proofs.ListedPlans.{session-listed}
use Rattle.mx_top.proofs.MachinePlans.{session-follows}
use Rattle.mx_top.proofs.console.run_session.Goals as goal

-- a stream of the console failed
pub returns-in-HostFault : goal.returns-in-HostFault
returns-in-HostFault g c =
    let after = state_of c.session.new.runner.machine in
    record {
      both = record {
        window = λ t.
            session-follows c.args.order.now.steps _ _ (state_of c.args.machine) after _ _ _ sitting.HostFault HostFault HostFault
            (work.dumped_plan c.args.order.now.dump) (λ o s kept. end.dumped_plan c.args.order.now.dump o s) (to-dumped c.args.order.now.dump) c.new-runner.ensures.flags refl (rw c.new-runner.ensures.machine at (c.in-HostFault.ensures.plan t))
            (λ e. absurd (cc)) (λ ne. undumped-fault c.args.order.now.dump _ _ (subst IsTrue (sym c.in-HostFault.ensures.keeps.telling) t));
        list = λ t ne.
            let there = subst IsTrue (sym c.in-HostFault.ensures.keeps.telling) t in
            let untouched = subst (λ (k : Kept). (state_of k).touched ≡ false) (sym c.new-runner.ensures.machine) c.requires in
            let here = contents (g.H.Host.told c.session.new.host) in
            session-listed c.args.order.now.steps _ _ (state_of c.args.machine) after _ here here sitting.HostFault HostFault HostFault
            (work.dumped_plan c.args.order.now.dump) (λ o s kept. end.dumped_plan c.args.order.now.dump o s) (to-dumped c.args.order.now.dump) c.new-runner.ensures.flags refl (rw c.new-runner.ensures.machine at (c.in-HostFault.ensures.listed t (λ e. cc) untouched)) (front-self here.output)
            (same-dumped c.args.order.now.dump HostFault after) ((undumped-fault c.args.order.now.dump after (g.H.Host.told c.session.new.host) there).ending (λ e. cc));
      };
      causes = (λ had e. c.in-HostFault.ensures.cause had refl, λ n e. absurd (cc), refl, c.in-HostFault.ensures.keeps);
    }

pub returns : goal.returns
returns g c =
    let after = state_of c.session.new.runner.machine in
    let told = c.tell_end.ensures in
    let outcome : c.session_outcome.result ≡ session_outcome c.args.order.now.steps c.session.result = cc (c.session_outcome.ensures.value, c.in_default.end-is) in
    let some : c.tell_end.result ≢ OutOfMemory → c.session_outcome.result ≢ OutOfMemory = λ ne e. ne (told.lacked e).0 in
    record {
      both = record {
        window = λ t.
            session-follows c.args.order.now.steps _ _ (state_of c.args.machine) after _ _ _ c.session.result c.session_outcome.result c.tell_end.result
            (work.dumped_plan c.args.order.now.dump) (λ o s kept. end.dumped_plan c.args.order.now.dump o s) (to-dumped c.args.order.now.dump) c.new-runner.ensures.flags outcome (rw c.new-runner.ensures.machine at (c.session.ensures.plan t))
            (λ e. let none = told.lacked e in (none.0, ap (λ h. contents (g.H.Host.told h)) none.1))
            (λ ne. rw c.machine.ensures at (told.plan ne (subst IsTrue (sym c.session.ensures.keeps.telling) t)));
        list = λ t ne.
            let there = subst IsTrue (sym c.session.ensures.keeps.telling) t in
            let untouched = subst (λ (k : Kept). (state_of k).touched ≡ false) (sym c.new-runner.ensures.machine) c.requires in
            session-listed c.args.order.now.steps _ _ (state_of c.args.machine) after _ _ _ c.session.result c.session_outcome.result c.tell_end.result
            (work.dumped_plan c.args.order.now.dump) (λ o s kept. end.dumped_plan c.args.order.now.dump o s) (to-dumped c.args.order.now.dump) c.new-runner.ensures.flags outcome
            (rw c.new-runner.ensures.machine at (c.session.ensures.listed t (λ e. some ne (c.session_outcome.ensures.memory (cc (e, c.in_default.end-is)))) untouched)) (told.causes.3.growing there)
            (same-dumped c.args.order.now.dump c.session_outcome.result after) ((rw c.machine.ensures at (told.plan (some ne) there)).ending ne);
      };
      causes = fails-after g.H.Host.told g.H.Host.faults _ _ _ _ c.session.ensures.keeps told.causes;
    }

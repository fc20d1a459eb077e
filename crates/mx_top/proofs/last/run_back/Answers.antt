use Rattle.std.proofs.Common.{◌≢◌, subst, sym, ap, take}
use Rattle.std.specs.Prelude.{IsTrue}
use Rattle.mx_host.specs.HostModel.{contents}
use Rattle.mx_core.specs.Kept.{state_of}
use Rattle.mx_outcome.specs.declared.outcome.Outcome.TheVariants.{OutOfMemory}
use Rattle.mx_top.specs.Endings as end
use Rattle.mx_top.specs.MachineWork as work
use Rattle.mx_top.proofs.ListedPlans.{kept-listed}
use Rattle.mx_top.proofs.Followed.{to-back}
use Rattle.mx_top.proofs.MachinePlans.{kept-follows, works-lacks, works-taking}
use Rattle.mx_top.proofs.TakenBack.{nothing-kept, nothing-beside, same-back}
use Rattle.mx_top.proofs.Caused.{fails-after, fails-lacking}
use Rattle.mx_top.proofs.last.run_back.Goals as goal

pub returns-in-Err : goal.returns-in-Err
returns-in-Err g c = record { both = works-lacks _ _ _; causes = fails-lacking g.H.Host.told g.H.Host.faults _ }

pub returns : goal.returns
returns g c =
    let after = state_of c.run_kept-end.new.machine in
    let told = c.tell_back.ensures in
    let some : c.tell_back.result ≢ OutOfMemory → c.outcome_of.result ≢ OutOfMemory = λ ne e. ne (told.lacked e).0 in
    record {
      both = works-taking _ _ _ _ _ (record {
        window = λ t.
            kept-follows c.args.order.now.steps (state_of c.args.machine) after _ _ _ _ c.run_kept-end.result c.outcome_of.result c.tell_back.result
            (work.back_plan c.args.order.now) (λ outcome s kept. end.back_plan c.args.order.now.dump outcome (take c.args.order.now.last kept) s) (to-back c.args.order.now) c.outcome_of.ensures.value (c.run_kept-end.ensures.plan t)
            (λ ne. nothing-kept _ _ _ _ _ _ c.in-Ok.ensures.none (c.run_kept-end.ensures.kept t ne))
            (λ e. let none = told.lacked e in (none.0, ap (λ h. contents (g.H.Host.told h)) none.1))
            (λ ne. told.plan ne (subst IsTrue (sym c.run_kept-end.ensures.run.keeps.telling) t));
        list = λ t ne.
            let there = subst IsTrue (sym c.run_kept-end.ensures.run.keeps.telling) t in
            kept-listed c.args.order.now.steps (state_of c.args.machine) after _ _ _ _ c.run_kept-end.result c.outcome_of.result c.tell_back.result
            (work.back_plan c.args.order.now) (λ outcome s kept. end.back_plan c.args.order.now.dump outcome (take c.args.order.now.last kept) s) (to-back c.args.order.now) c.outcome_of.ensures.value
            (c.run_kept-end.ensures.run.listed t (λ e. some ne (c.outcome_of.ensures.memory e)) c.requires)
            (nothing-beside _ _ _ _ _ _ c.in-Ok.ensures.none (c.run_kept-end.ensures.kept_listed t (λ e. some ne (c.outcome_of.ensures.memory e)) c.requires)) (told.causes.3.growing there)
            (λ u a. same-back c.args.order.now.dump c.args.order.now.last c.outcome_of.result _ after u a) ((told.plan (some ne) there).ending ne);
      });
      causes = fails-after g.H.Host.told g.H.Host.faults _ _ _ _ c.run_kept-end.ensures.run.keeps told.causes;
    }

use Rattle.std.proofs.Common.{◌≢◌, subst, sym, ap}
use Rattle.std.specs.Prelude.{IsTrue}
use Rattle.mx_host.specs.HostModel.{contents}
use Rattle.mx_plan.specs.Plan.{Comes}
use Rattle.mx_multi.specs.Clauses.{GoAsLists}
use Rattle.mx_multi.specs.Joint.{Joint, as_list_joint, joint_of}
use Rattle.mx_multi.specs.MultiPlans.{multi, turns_plan}
use Rattle.mx_multi.specs.Turns.{turns}
use Rattle.mx_multi.specs.declared.end.MultiEnd.TheVariants as turning
use Rattle.mx_outcome.specs.declared.outcome.Outcome.TheVariants.{OutOfMemory}
use Rattle.mx_run.specs.WildRuns.{list_machine}
use Rattle.mx_top.specs.Processors.{multi_outcome}
use Rattle.mx_top.proofs.TurnsMade.{turns-follow, turns-listed}
use Rattle.mx_top.proofs.TurnsTold.{turned-well}
use Rattle.mx_top.proofs.Caused.{fails-after}
use Rattle.mx_top.proofs.schedules.run_started.Goals as goal

pub returns : goal.returns
returns g c = λ image e.
    let steps = c.args.order.now.steps in
    let schedule = c.args.schedule.now in
    let after = joint_of c.run_turns-end.new.multi in
    let told = c.tell_turns.ensures in
    let old = contents (g.H.Host.told c.args.host.now) in
    let here = contents (g.H.Host.told c.run_turns-end.new.host) in
    let some : c.tell_turns.result ≢ OutOfMemory → c.run_turns-end.result ≢ turning.OutOfMemory = λ ne o. ne (told.lacked (ap (multi_outcome steps) o)).0 in
    record {
      both = record {
        window = λ t.
            turns-follow c.args.order.now schedule image after old here _ c.run_turns-end.result c.tell_turns.result
            (subst (λ (j : Joint). Comes multi (j, old) (after, here) turning.OutOfMemory c.run_turns-end.result (turns_plan schedule steps schedule)) e (c.run_turns-end.ensures.turns.plan t))
            (λ o. let none = told.lacked (ap (multi_outcome steps) o) in (none.0, ap (λ h. contents (g.H.Host.told h)) none.1))
            (λ ne. told.plan (turned-well steps c.run_turns-end.result ne) (subst IsTrue (sym c.run_turns-end.ensures.turns.keeps.telling) t));
        list = λ t ne.
            let there = subst IsTrue (sym c.run_turns-end.ensures.turns.keeps.telling) t in
            turns-listed c.args.order.now schedule image after old here _ c.run_turns-end.result c.tell_turns.result
            (subst (λ (j : Joint). GoAsLists (turns list_machine schedule steps schedule (as_list_joint j) old) c.run_turns-end.result after here) e (c.run_turns-end.ensures.turns.listed t (some ne) c.requires.untouched))
            (told.causes.3.growing there) ((told.plan (turned-well steps c.run_turns-end.result (some ne)) there).ending ne);
      };
      causes = fails-after g.H.Host.told g.H.Host.faults _ _ _ _ c.run_turns-end.ensures.turns.keeps told.causes;
    }

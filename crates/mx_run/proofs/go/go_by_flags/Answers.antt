use Rattle.std.proofs.Common.{arith, sym, subst, IsTrue}
use Rattle.mx_host.specs.HostModel.{contents}
use Rattle.mx_core.specs.Kept.{state_of}
use Rattle.mx_run.specs.FlagMaps.{flags_at}
use Rattle.mx_run.proofs.Later.{begun-later, few-later, last-later, turned-later}
use Rattle.mx_run.proofs.ListSteps.{list-window}
use Rattle.mx_run.proofs.RunBoth.{rest-begun-both, rest-went-both, rest-ended-both, rest-spent-both}
use Rattle.mx_plan.proofs.KeptHosts.{keeps_host-all, keeps_host-then}
use Rattle.mx_run.proofs.Runners.{spares-begun, spares-went, spares-ended}
use Rattle.mx_run.proofs.go.go_by_flags.Goals as goal

pub loop-turn-init : goal.loop-turn-init
loop-turn-init g c = record {
  both = λ t. rest-begun-both c.args.n (flags_at c.args.flags.now) c.args.pass (state_of c.args.machine.now, contents (g.H.Host.told c.args.host.now));
  spared = spares-begun c.args.n (state_of c.args.machine.now);
  bound = begun-later (state_of c.args.machine.now);
  keeps = keeps_host-all (g.H.Host.told c.args.host.now) (g.H.Host.faults c.args.host.now);
}

pub loop-turn-preserved : goal.loop-turn-preserved
loop-turn-preserved g c = record {
  both = λ t.
      rest-went-both _ _ _ _ _ _ _ _ _ _ _ c.loop-turn-test.true (list-window _ c.in-Ok.ensures.has_window) (c.in-Ok.ensures.step.told (subst IsTrue (sym c.loop-turn.invariant.keeps.0) t))
      (c.loop-turn.invariant.both t);
  spared = λ h. spares-went _ _ _ _ _ c.loop-turn-test.true c.in-Ok.ensures.step.spared (c.loop-turn.invariant.spared h);
  bound = turned-later _ _ _ _ c.loop-turn.invariant.bound c.run_step.ensures.step.bound;
  keeps = keeps_host-then _ _ _ _ _ _ c.loop-turn.invariant.keeps c.run_step.ensures.step.keeps;
}

pub returns-in-Err : goal.returns-in-Err
returns-in-Err g c =
    let was = c.loop-turn.invariant in
    let e = c.in-Err.ensures in
    record {
      both = λ t. rest-ended-both _ _ _ _ _ _ _ _ _ _ _ c.loop-turn-test.true (list-window _ e.has_window) (e.step.told (subst IsTrue (sym was.keeps.0) t)) (was.both t);
      spared = λ h. spares-ended _ _ _ _ _ c.loop-turn-test.true e.step.spared (was.spared h);
      bound = last-later _ _ _ _ _ c.loop-turn-test.true was.bound e.step.bound;
      keeps = keeps_host-then _ _ _ _ _ _ was.keeps e.step.keeps;
    }

pub returns : goal.returns
returns g c =
    let was = c.loop-turn.invariant in
    record {
      both = λ t. rest-spent-both _ _ _ _ _ _ _ c.loop-turn-test.false (was.both t);
      spared = λ h e. absurd (cc);
      bound = few-later _ _ _ _ (omega (arith, c.loop-turn-test.false)) was.bound;
      keeps = was.keeps;
    }

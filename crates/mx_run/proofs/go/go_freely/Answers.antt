use Rattle.std.proofs.Common.{sym, subst, IsTrue}
use Rattle.mx_plan.proofs.KeptHosts.{keeps_host-then}
use Rattle.mx_run.proofs.Walked.{not-last, all-made, fewer-left, walk-goes-on, walk-ends, walk-spends, walk-spares-on, walk-spares-end, walk-later, walk-later-on, walk-later-end}
use Rattle.mx_run.proofs.go.go_freely.Goals as goal

pub returns-then-left-eq0 : goal.returns-then-left-eq0
returns-then-left-eq0 g c =
    let was = c.loop-left.invariant in
    let walk = c.advance_many-walk.ensures in
    record {
      both = λ t. walk-spends _ _ _ _ _ _ _ _ c.requires walk.most (all-made _ _ c.if-left-eq0.true) walk.goes (was.both t);
      spared = λ h e. absurd (cc);
      bound = walk-later _ _ _ _ _ _ was.few walk.most was.bound walk.goes;
      keeps = was.keeps;
    }

pub loop-left-preserved : goal.loop-left-preserved
loop-left-preserved g c =
    let was = c.loop-left.invariant in
    let some = not-last _ _ c.advance_many-walk.ensures.most c.if-left-eq0.false in
    let walk = c.advance_many-walk.ensures.goes in
    let e = c.in-Ok.ensures in
    record {
      both = λ t. walk-goes-on _ _ _ _ _ _ _ _ _ _ _ c.requires some walk e.has_window (was.both t) (e.step.told (subst IsTrue (sym was.keeps.0) t));
      spared = λ h. walk-spares-on _ _ _ _ _ _ some walk e.step.spared (was.spared h);
      few = fewer-left _ _ _ was.few;
      bound = walk-later-on _ _ _ _ _ _ _ was.few some was.bound walk e.step.bound;
      keeps = keeps_host-then _ _ _ _ _ _ was.keeps e.step.keeps;
    }

pub returns-in-Err : goal.returns-in-Err
returns-in-Err g c =
    let was = c.loop-left.invariant in
    let some = not-last _ _ c.advance_many-walk.ensures.most c.if-left-eq0.false in
    let walk = c.advance_many-walk.ensures.goes in
    let e = c.in-Err.ensures in
    record {
      both = λ t. walk-ends _ _ _ _ _ _ _ _ _ _ _ c.requires some walk e.has_window (was.both t) (e.step.told (subst IsTrue (sym was.keeps.0) t));
      spared = λ h. walk-spares-end _ _ _ _ _ _ some walk e.step.spared (was.spared h);
      bound = walk-later-end _ _ _ _ _ _ _ was.few some was.bound walk e.step.bound;
      keeps = keeps_host-then _ _ _ _ _ _ was.keeps e.step.keeps;
    }

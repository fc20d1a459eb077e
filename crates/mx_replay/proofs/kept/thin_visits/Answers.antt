use Rattle.std.proofs.Common.{Some, refl}
use Rattle.mx_replay.proofs.Keeping.{rest-popped, step-popped, step-pushed}
use Rattle.mx_replay.proofs.kept.thin_visits.Goals as goal

pub loop-visit-preserved-then-is_left : goal.loop-visit-preserved-then-is_left
loop-visit-preserved-then-is_left c = λ p a.
    let both = c.loop-visit.invariant p a in (
      rest-popped p _ _ (Some c.in-Some.visit) c.in-Some.ensures.items both.0,
      step-pushed p _ _ _ c.push-kept.result c.push-kept.ensures.ok c.push-kept.ensures.err (step-popped p _ _ (Some c.in-Some.visit) c.in-Some.visit c.in-Some.ensures.items refl both.0) both.1,
    )

pub loop-visit-preserved : goal.loop-visit-preserved
loop-visit-preserved c = λ p a.
    let both = c.loop-visit.invariant p a in
    (rest-popped p _ _ (Some c.in-Some.visit) c.in-Some.ensures.items both.0, both.1)

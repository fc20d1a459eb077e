use Rattle.std.proofs.Common.{arith}
use Rattle.mx_replay.proofs.kept.go_keeping.Goals as goal

pub loop-alloc-preserved : goal.loop-alloc-preserved
loop-alloc-preserved c = (
  omega (arith, c.in_ok-go_on.ensures.forward.1, c.next_due-due.ensures.within),
  λ p s. (c.in_ok-go_on.ensures.step p (c.loop-alloc.invariant.1 p s)).0,
  λ p s a. c.keep.ensures p (c.in_ok-go_on.ensures.step p (c.loop-alloc.invariant.1 p s)).0 (c.loop-alloc.invariant.2 p s a),
)

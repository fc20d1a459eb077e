use Rattle.std.proofs.Common.{◌≡◌, length}
use Rattle.mx_expr.proofs.Words.{tree_of, with_strong, all_waiting}
use Rattle.mx_expr.proofs.joining.settle.Given as goal

abbrev pub invariant-loop-op : goal.invariant-loop-op
invariant-loop-op l = with_strong (all_waiting l.waiting) (tree_of l.e) ≡ with_strong (all_waiting l.fn.waiting) (tree_of l.fn.primary)

abbrev pub decreases-loop-op : goal.decreases-loop-op
decreases-loop-op l = length l.waiting

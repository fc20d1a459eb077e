use Rattle.mx_expr.specs.Tree.{tree_of, weight}
use Rattle.mx_expr.proofs.tree.Expr.drop.Given as goal

abbrev pub decreases-loop-self : goal.decreases-loop-self
decreases-loop-self l = weight (tree_of l.self)

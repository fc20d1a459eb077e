use Rattle.std.proofs.Common.{◌≡◌, length}
use Rattle.mx_type.specs.Lambda.{lambda_following}
use Rattle.mx_view.proofs.cells.lambda_following.Given as goal

abbrev pub invariant-loop-rest : goal.invariant-loop-rest
invariant-loop-rest l = lambda_following l.fn.lambda l.items ≡ lambda_following l.following l.rest

abbrev pub decreases-loop-rest : goal.decreases-loop-rest
decreases-loop-rest l = length l.rest

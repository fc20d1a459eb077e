use Rattle.std.proofs.Common.{◌≡◌, ◌++◌, length}
use Rattle.mx_view.specs.Cells.{cells_of}
use Rattle.mx_view.proofs.cells.cells_of.Given as goal

abbrev pub invariant-loop-rest : goal.invariant-loop-rest
invariant-loop-rest l = cells_of l.wanted l.fn.lambda l.items ≡ l.cells ++ cells_of l.wanted l.following l.rest

abbrev pub decreases-loop-rest : goal.decreases-loop-rest
decreases-loop-rest l = length l.rest

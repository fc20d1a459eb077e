use Rattle.std.proofs.Common.{◌≡◌, ◌++◌, length}
use Rattle.mx_slips.proofs.tetras.copy_cells.Given as goal

abbrev pub invariant-loop-rest : goal.invariant-loop-rest
invariant-loop-rest l = l.cells ≡ l.copy ++ l.rest

abbrev pub decreases-loop-rest : goal.decreases-loop-rest
decreases-loop-rest l = length l.rest

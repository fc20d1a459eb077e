use Rattle.std.proofs.Common.{◌≡◌, ◌++◌, length}
use Rattle.mx_object.specs.Counting.{before_part, cells_of}
use Rattle.mx_object.proofs.counting.add_before_part.Given as goal

abbrev pub invariant-loop-tetra : goal.invariant-loop-tetra
invariant-loop-tetra l = l.fn.cells ++ cells_of (before_part l.tetras) ≡ l.cells ++ cells_of (before_part l.rest)

abbrev pub decreases-loop-tetra : goal.decreases-loop-tetra
decreases-loop-tetra l = length l.rest

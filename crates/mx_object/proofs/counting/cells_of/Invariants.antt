use Rattle.std.proofs.Common.{◌≡◌, take}
use Rattle.mx_object.specs.Counting.{cells_of}
use Rattle.mx_object.proofs.counting.cells_of.Given as goal

abbrev pub invariant-loop-tetra : goal.invariant-loop-tetra
invariant-loop-tetra l = l.cells ≡ cells_of (take l.tetra-index l.tetras)

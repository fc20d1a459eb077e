use Rattle.std.proofs.Common.{◌≡◌, length}
use Rattle.mx_warn.specs.Idle.{same_cells}
use Rattle.mx_warn.proofs.unused_bases.are_same_cells.Given as goal

abbrev pub invariant-loop-rest : goal.invariant-loop-rest
invariant-loop-rest l = same_cells l.cells l.others ≡ same_cells l.rest l.left

abbrev pub decreases-loop-rest : goal.decreases-loop-rest
decreases-loop-rest l = length l.rest

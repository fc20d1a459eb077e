use Rattle.std.proofs.Common.{◌≡◌, length}
use Rattle.mx_warn.specs.Idle.{same_loads}
use Rattle.mx_warn.proofs.unused_bases.are_same_loads.Given as goal

abbrev pub invariant-loop-rest : goal.invariant-loop-rest
invariant-loop-rest l = same_loads l.loads l.lines ≡ same_loads l.rest l.left

abbrev pub decreases-loop-rest : goal.decreases-loop-rest
decreases-loop-rest l = length l.rest

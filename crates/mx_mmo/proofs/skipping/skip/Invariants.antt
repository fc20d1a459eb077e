use Rattle.std.proofs.Common.{◌≡◌, ◌≤◌, false, Some, length, take, drop}
use Rattle.mx_mmo.specs.Skipping as spec
use Rattle.mx_mmo.proofs.skipping.skip.Given as goal

-- the tetras so far are skipped, and the rest follows them
abbrev pub invariant-loop-rest : goal.invariant-loop-rest
invariant-loop-rest l = record {
  rest : l.rest ≡ drop l.scan.size l.more;
  within : l.scan.size ≤ length l.more;
  looked : spec.quoted_after false (take l.scan.size l.more) ≡ Some l.scan.quoted;
}

abbrev pub decreases-loop-rest : goal.decreases-loop-rest
decreases-loop-rest l = length l.rest

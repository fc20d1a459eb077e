use Rattle.std.proofs.Common.{◌≡◌, ◌≤◌, length}
use Rattle.mx_stab.specs.Numbers as spec
use Rattle.mx_stab.proofs.numbers.fewest_digits.Given as goal

abbrev pub invariant-loop-rest : goal.invariant-loop-rest
invariant-loop-rest l = record {
  same : spec.fewest_digits l.rest ≡ spec.fewest_digits l.digits;
  fewer : length l.rest ≤ length l.digits;
}

abbrev pub decreases-loop-rest : goal.decreases-loop-rest
decreases-loop-rest l = length l.rest

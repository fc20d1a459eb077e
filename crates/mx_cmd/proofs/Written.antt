-- Numbers that are 2^64 or more stay so with further digits.
use Rattle.std.proofs.Common.{◌≡◌, ℕ, ◌≤◌, ◌<◌, arith, None, Some}
use Rattle.std.proofs.lemmas.Bool.Decides.{nat_tests}
use Rattle.mx_cmd.specs.Numerals.{below}

pub below-less : (bound n : ℕ) → n < bound → below bound n ≡ Some n
below-less bound n lt = grind (arith, nat_tests)

pub below-more : (bound n : ℕ) → bound ≤ n → below bound n ≡ None
below-more bound n le = grind (arith, nat_tests)

pub ruleset writing = (below-less, below-more)

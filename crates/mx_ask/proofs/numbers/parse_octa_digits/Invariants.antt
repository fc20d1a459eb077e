use Rattle.std.proofs.Common.{◌≡◌, ◌^◌, take}
use Rattle.mx_cmd.specs.Numerals as spec
use Rattle.mx_ask.proofs.numbers.parse_octa_digits.Given as goal

abbrev pub invariant-loop-b : goal.invariant-loop-b
invariant-loop-b l = l.n ≡ spec.below (2 ^ 64) (spec.numeral_value l.fn.base (take l.b-index l.digits))

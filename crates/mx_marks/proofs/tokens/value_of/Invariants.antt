use Rattle.std.proofs.Common.{◌≡◌, take}
use Rattle.mx_marks.specs.Tokens.{value_of}
use Rattle.mx_marks.proofs.tokens.value_of.Given as goal

abbrev pub invariant-loop-b : goal.invariant-loop-b
invariant-loop-b l = l.value ≡ value_of l.base (take l.b-index l.digits)

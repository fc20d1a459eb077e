use Rattle.std.proofs.Common.{◌≡◌, take}
use Rattle.mx_book.specs.Labels.{constants_in}
use Rattle.mx_book.proofs.labels.constants_in.Given as goal

abbrev pub invariant-loop-line : goal.invariant-loop-line
invariant-loop-line l = l.names ≡ constants_in (take l.line-index l.lines)

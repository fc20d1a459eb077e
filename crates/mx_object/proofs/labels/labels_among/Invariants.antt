use Rattle.std.proofs.Common.{◌≡◌, take}
use Rattle.mx_object.specs.Labels.{labels_at}
use Rattle.mx_object.proofs.labels.labels_among.Given as goal

abbrev pub invariant-loop-symbol : goal.invariant-loop-symbol
invariant-loop-symbol l = l.labels ≡ labels_at l.address (take l.symbol-index l.symbols)

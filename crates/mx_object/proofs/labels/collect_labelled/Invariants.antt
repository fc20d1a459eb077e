use Rattle.std.proofs.Common.{◌≡◌, take}
use Rattle.mx_object.specs.Labels.{labelled}
use Rattle.mx_object.proofs.labels.collect_labelled.Given as goal

abbrev pub invariant-loop-symbol : goal.invariant-loop-symbol
invariant-loop-symbol l = l.addresses ≡ labelled (take l.symbol-index l.symbols)

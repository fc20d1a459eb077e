use Rattle.std.proofs.Common.{◌≡◌, drop}
use Rattle.mx_object.specs.Labels.{nearer, nearest}
use Rattle.mx_object.proofs.labels.nearest.Given as goal

abbrev pub invariant-loop-symbol : goal.invariant-loop-symbol
invariant-loop-symbol l = nearest l.address l.symbols ≡ nearer l.best (nearest l.address (drop l.symbol-index l.symbols))

use Rattle.std.proofs.Common.{◌≡◌, drop}
use Rattle.mx_book.specs.Lookups.{greater, nearest_address}
use Rattle.mx_book.proofs.lookups.nearest_address.Given as goal

abbrev pub invariant-loop-label : goal.invariant-loop-label
invariant-loop-label l = nearest_address l.address l.labels ≡ greater l.best (nearest_address l.address (drop l.label-index l.labels))

use Rattle.std.proofs.Common.{◌≡◌, take}
use Rattle.std.specs.List.{flat_map}
use Rattle.mx_book.specs.Labels.{label_unless}
use Rattle.mx_book.proofs.labels.source_labels.Given as goal

abbrev pub invariant-loop-symbol : goal.invariant-loop-symbol
invariant-loop-symbol l = l.labels ≡ flat_map (label_unless l.constants) (take l.symbol-index l.symbols)

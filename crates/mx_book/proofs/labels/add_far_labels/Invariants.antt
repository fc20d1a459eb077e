use Rattle.std.proofs.Common.{◌≡◌, ◌++◌, take}
use Rattle.std.specs.List.{flat_map}
use Rattle.mx_book.specs.Labels.{far_label}
use Rattle.mx_book.proofs.labels.add_far_labels.Given as goal

abbrev pub invariant-loop-symbol : goal.invariant-loop-symbol
invariant-loop-symbol l = l.labels ≡ l.fn.labels ++ flat_map far_label (take l.symbol-index l.symbols)

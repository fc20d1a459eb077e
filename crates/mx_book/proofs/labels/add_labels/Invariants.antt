use Rattle.std.proofs.Common.{◌≡◌, ◌++◌, take}
use Rattle.mx_book.proofs.labels.add_labels.Given as goal

abbrev pub invariant-loop-label : goal.invariant-loop-label
invariant-loop-label l = l.labels ≡ l.fn.labels ++ take l.label-index l.others

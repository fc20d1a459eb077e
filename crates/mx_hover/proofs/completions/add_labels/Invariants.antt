use Rattle.std.proofs.Common.{◌≡◌, ◌++◌, take}
use Rattle.std.specs.List.{flat_map}
use Rattle.mx_hover.specs.Completions.{label_if}
use Rattle.mx_hover.proofs.completions.add_labels.Given as goal

abbrev pub invariant-loop-o : goal.invariant-loop-o
invariant-loop-o l = l.values ≡ l.fn.values ++ flat_map (label_if l.word) (take l.o-index l.names)

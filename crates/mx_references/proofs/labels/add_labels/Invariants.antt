use Rattle.std.proofs.Common.{◌≡◌, ◌++◌, take}
use Rattle.std.specs.List.{flat_map}
use Rattle.mx_references.specs.Outline.{label_if}
use Rattle.mx_references.proofs.labels.add_labels.Given as goal

abbrev pub invariant-loop-o : goal.invariant-loop-o
invariant-loop-o l = l.values ≡ l.fn.values ++ flat_map (label_if l.source) (take l.o-index l.names)

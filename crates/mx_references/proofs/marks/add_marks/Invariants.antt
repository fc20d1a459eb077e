use Rattle.std.proofs.Common.{◌≡◌, ◌++◌, take}
use Rattle.std.specs.List.{flat_map}
use Rattle.mx_references.specs.Uses.{mark_if}
use Rattle.mx_references.proofs.marks.add_marks.Given as goal

abbrev pub invariant-loop-o : goal.invariant-loop-o
invariant-loop-o l = l.values ≡ l.fn.values ++ flat_map (mark_if l.source l.named) (take l.o-index l.names)

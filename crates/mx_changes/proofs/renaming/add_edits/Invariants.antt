use Rattle.std.proofs.Common.{◌≡◌, ◌++◌, take}
use Rattle.std.specs.List.{flat_map}
use Rattle.mx_changes.specs.Changes.{edit_if}
use Rattle.mx_changes.proofs.renaming.add_edits.Given as goal

abbrev pub invariant-loop-o : goal.invariant-loop-o
invariant-loop-o l = l.values ≡ l.fn.values ++ flat_map (edit_if l.source l.named l.name) (take l.o-index l.names)

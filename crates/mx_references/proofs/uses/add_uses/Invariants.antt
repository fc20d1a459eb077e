use Rattle.std.proofs.Common.{◌≡◌, ◌++◌, take}
use Rattle.std.specs.List.{flat_map}
use Rattle.mx_references.specs.Uses.{use_if}
use Rattle.mx_references.proofs.uses.add_uses.Given as goal

abbrev pub invariant-loop-o : goal.invariant-loop-o
invariant-loop-o l = l.values ≡ l.fn.values ++ flat_map (use_if l.uri l.source l.named l.has_labels) (take l.o-index l.names)

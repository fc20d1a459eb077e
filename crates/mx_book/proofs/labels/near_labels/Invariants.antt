use Rattle.std.proofs.Common.{◌≡◌, take}
use Rattle.std.specs.List.{flat_map}
use Rattle.mx_book.specs.Labels.{near_labels}
use Rattle.mx_book.proofs.labels.near_labels.Given as goal

abbrev pub invariant-loop-tetra : goal.invariant-loop-tetra
invariant-loop-tetra l = l.labels ≡ flat_map near_labels (take l.tetra-index l.tetras)

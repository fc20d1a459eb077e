use Rattle.std.proofs.Common.{◌≡◌, ◌++◌, take}
use Rattle.std.specs.List.{flat_map}
use Rattle.mx_object.specs.Rows.{label_row}
use Rattle.mx_object.proofs.rows.add_label_rows.Given as goal

abbrev pub invariant-loop-label : goal.invariant-loop-label
invariant-loop-label l = l.text ≡ l.fn.text ++ flat_map label_row (take l.label-index l.labels)

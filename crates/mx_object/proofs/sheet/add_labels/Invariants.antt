use Rattle.std.proofs.Common.{◌≡◌, ◌++◌, take}
use Rattle.mx_object.specs.Sheets.{labels_text}
use Rattle.mx_object.proofs.sheet.add_labels.Given as goal

abbrev pub invariant-loop-label : goal.invariant-loop-label
invariant-loop-label l = l.text ≡ l.fn.text ++ labels_text (take l.label-index l.labels)

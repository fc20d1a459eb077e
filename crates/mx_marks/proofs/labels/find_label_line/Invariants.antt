use Rattle.std.proofs.Common.{◌≡◌, ◌+◌, length}
use Rattle.mx_line.specs.Lines.{lines_of}
use Rattle.mx_marks.specs.Labels.{label_number}
use Rattle.mx_marks.proofs.labels.find_label_line.Given as goal

abbrev pub invariant-loop-name : goal.invariant-loop-name
invariant-loop-name l = (label_number l.name l.most 1 (lines_of l.source) ≡ label_number l.name l.left l.number (lines_of l.rest)) × (l.number + l.left ≡ l.most + 1)

abbrev pub decreases-loop-name : goal.decreases-loop-name
decreases-loop-name l = length l.rest

use Rattle.std.proofs.Common.{◌≡◌, length}
use Rattle.mx_line.specs.Lines.{lines_of}
use Rattle.mx_marks.specs.Labels.{first_line}
use Rattle.mx_marks.proofs.labels.first_line.Given as goal

abbrev pub invariant-loop-rest : goal.invariant-loop-rest
invariant-loop-rest l = first_line l.kind l.name l.most (lines_of l.source) ≡ first_line l.kind l.name l.left (lines_of l.rest)

abbrev pub decreases-loop-rest : goal.decreases-loop-rest
decreases-loop-rest l = length l.rest

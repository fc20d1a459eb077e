use Rattle.std.proofs.Common.{◌≡◌, length}
use Rattle.mx_line.specs.Lines.{lines_of}
use Rattle.mx_marks.specs.Mending.{line_text}
use Rattle.mx_marks.proofs.mending.line_text.Given as goal

abbrev pub invariant-loop-rest : goal.invariant-loop-rest
invariant-loop-rest l = line_text l.line (lines_of l.source) ≡ line_text l.ahead (lines_of l.rest)

abbrev pub decreases-loop-rest : goal.decreases-loop-rest
decreases-loop-rest l = length l.rest

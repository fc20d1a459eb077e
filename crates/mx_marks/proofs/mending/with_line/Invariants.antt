use Rattle.std.proofs.Common.{◌≡◌, ◌++◌, length}
use Rattle.std.specs.List.{flat_map}
use Rattle.mx_line.specs.Lines.{lines_of}
use Rattle.mx_marks.specs.Mending.{lines_with, with_newline}
use Rattle.mx_marks.proofs.mending.with_line.Given as goal

abbrev pub invariant-loop-rest : goal.invariant-loop-rest
invariant-loop-rest l =
    flat_map with_newline (lines_with l.line l.text (lines_of l.source)) ≡ l.mended ++ flat_map with_newline (lines_with l.ahead l.text (lines_of l.rest))

abbrev pub decreases-loop-rest : goal.decreases-loop-rest
decreases-loop-rest l = length l.rest

use Rattle.std.proofs.Common.{◌≡◌, ◌++◌, length}
use Rattle.mx_line.specs.Lines.{lines_of}
use Rattle.mx_count.specs.InTurn.{sum_at, tally_by}
use Rattle.mx_count.specs.Sheets.{counted_lines}
use Rattle.mx_count.proofs.lines.add_lines.Given as goal

abbrev pub invariant-loop-rest : goal.invariant-loop-rest
invariant-loop-rest l =
    l.fn.lines ++ counted_lines (tally_by (sum_at l.sums)) 1 (lines_of l.source) l.loads
    ≡ l.lines ++ counted_lines (tally_by (sum_at l.sums)) l.number (lines_of l.rest) l.left

abbrev pub decreases-loop-rest : goal.decreases-loop-rest
decreases-loop-rest l = length l.rest

use Rattle.std.proofs.Common.{◌≡◌, ◌++◌, length}
use Rattle.mx_object.specs.Sheets.{counted_rows}
use Rattle.mx_object.proofs.sheet.add_counts.Given as goal

abbrev pub invariant-loop-tetra : goal.invariant-loop-tetra
invariant-loop-tetra l = l.fn.text ++ counted_rows l.tetras l.counts ≡ l.text ++ counted_rows l.rest l.left

abbrev pub decreases-loop-tetra : goal.decreases-loop-tetra
decreases-loop-tetra l = length l.rest

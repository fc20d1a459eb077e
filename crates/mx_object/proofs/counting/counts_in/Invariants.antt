use Rattle.std.proofs.Common.{◌≡◌, ◌++◌, length}
use Rattle.mx_count.specs.InTurn.{sum_at, tally_by}
use Rattle.mx_object.specs.Counting.{counts_of}
use Rattle.mx_object.proofs.counting.counts_in.Given as goal

abbrev pub invariant-loop-tetra : goal.invariant-loop-tetra
invariant-loop-tetra l = counts_of (tally_by (sum_at l.sums)) l.tetras ≡ l.counts ++ counts_of (tally_by (sum_at l.sums)) l.rest

abbrev pub decreases-loop-tetra : goal.decreases-loop-tetra
decreases-loop-tetra l = length l.rest

use Rattle.std.proofs.Common.{◌≡◌, drop}
use Rattle.std.specs.BTreeSet.{contains}
use Rattle.std.specs.Ordering.{nat_cmp}
use Rattle.mx_count.specs.InTurn.{sum_at, tally_by, unseen_tally}
use Rattle.mx_count.proofs.sums.line_tally.Given as goal

abbrev pub invariant-loop-cell : goal.invariant-loop-cell
invariant-loop-cell l =
    tally_by (sum_at l.sums) l.cells ≡ unseen_tally (sum_at l.sums) (contains nat_cmp l.seen) l.tally (drop l.cell-index l.cells)

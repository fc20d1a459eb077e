use Rattle.mx_count.specs.InTurn.{sum_at}
use Rattle.mx_count.proofs.Summing.{none-seen, unseen-all, unseen-next}
use Rattle.mx_count.proofs.sums.line_tally.Goals as goal

pub loop-cell-init : goal.loop-cell-init
loop-cell-init c = none-seen c.new-seen.result (sum_at c.args.sums.now) _ c.args.cells.now c.new-seen.ensures.empty c.empty_tally-tally.ensures

pub loop-cell-preserved : goal.loop-cell-preserved
loop-cell-preserved c =
    unseen-next c.args.cells.now c.loop-cell.cell-index _ (sum_at c.args.sums.now) _ _ _ _ _ c.loop-cell-test.true
    c.in_ok-tally.ensures.sum c.in_ok-tally.ensures.seen c.loop-cell.invariant

pub returns : goal.returns
returns c = unseen-all c.args.cells.now c.loop-cell.cell-index (sum_at c.args.sums.now) _ _ _ c.loop-cell-test.false c.loop-cell.invariant

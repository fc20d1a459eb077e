use Rattle.mx_count.proofs.Summing.{entries-all, entries-next, first-sums}
use Rattle.mx_count.proofs.sums.sums_of.Goals as goal

pub loop-entry-init : goal.loop-entry-init
loop-entry-init c = first-sums _ c.args.entries.now c.new.ensures.empty

pub loop-entry-preserved : goal.loop-entry-preserved
loop-entry-preserved c = entries-next c.args.entries.now c.loop-entry.entry-index _ _ _ _ c.loop-entry-test.true c.in_ok-add.ensures c.loop-entry.invariant

pub returns : goal.returns
returns c = entries-all c.args.entries.now c.loop-entry.entry-index _ _ c.loop-entry-test.false c.loop-entry.invariant

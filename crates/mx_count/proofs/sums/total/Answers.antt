use Rattle.std.proofs.Common.{sym, ap, ◌∙◌}
use Rattle.mx_count.specs.InTurn.{summed}
use Rattle.mx_count.proofs.Summing.{all-summed, summed-all, summed-next}
use Rattle.mx_count.proofs.sums.total.Goals as goal

pub loop-entry-init : goal.loop-entry-init
loop-entry-init c = sym (ap (λ y. summed y c.args.entries.now) c.empty_tally-sum.ensures ∙ all-summed c.args.entries.now)

pub loop-entry-preserved : goal.loop-entry-preserved
loop-entry-preserved c = summed-next c.args.entries.now c.loop-entry.entry-index _ _ _ _ c.loop-entry-test.true c.in_ok-sum.ensures c.loop-entry.invariant

pub returns : goal.returns
returns c = summed-all c.args.entries.now c.loop-entry.entry-index _ _ c.loop-entry-test.false c.loop-entry.invariant

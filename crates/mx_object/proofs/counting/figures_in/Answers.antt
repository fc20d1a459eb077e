use Rattle.mx_object.proofs.PartCells.{counts-are, elsewhere-is}
use Rattle.mx_object.proofs.counting.figures_in.Goals as goal

pub returns-clause-counts : goal.returns-clause-counts
returns-clause-counts c = counts-are c.args.tetras.now c.args.entries.now _ c.in_ok-sums.ensures _ c.in_ok-counts.ensures

pub returns-clause-elsewhere : goal.returns-clause-elsewhere
returns-clause-elsewhere c = elsewhere-is c.args.tetras.now c.args.entries.now _ c.in_ok-sums.ensures _ _ _ c.in_ok-all.ensures c.in_ok-loaded.ensures c.less.ensures

pub returns-clause-total : goal.returns-clause-total
returns-clause-total c = c.in_ok-all.ensures

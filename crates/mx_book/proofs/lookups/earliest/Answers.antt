use Rattle.mx_book.proofs.Earliest.{earliest-all, earliest-next}
use Rattle.mx_book.proofs.lookups.earliest.Goals as goal

pub loop-load-preserved : goal.loop-load-preserved
loop-load-preserved c =
    earliest-next c.args.loads.now c.loop-load.load-index _ c.args.line _ _ _ _ c.loop-load-test.true c.from_line.ensures c.earlier-best.ensures c.loop-load.invariant

pub returns : goal.returns
returns c = earliest-all c.args.loads.now c.loop-load.load-index c.args.line _ _ c.loop-load-test.false c.loop-load.invariant

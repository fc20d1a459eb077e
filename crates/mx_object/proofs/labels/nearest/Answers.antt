use Rattle.mx_object.proofs.NearestLaws.{nearest-all, nearest-next}
use Rattle.mx_object.proofs.labels.nearest.Goals as goal

pub loop-symbol-preserved : goal.loop-symbol-preserved
loop-symbol-preserved c =
    nearest-next c.args.symbols.now c.loop-symbol.symbol-index c.symbol-item.result c.args.address _ _ _ _ c.loop-symbol-test.true c.symbol-item.is c.in_ok-place.ensures
    c.nearer-best.ensures c.loop-symbol.invariant

pub returns : goal.returns
returns c = nearest-all c.args.symbols.now c.loop-symbol.symbol-index c.args.address _ _ c.loop-symbol-test.false c.loop-symbol.invariant

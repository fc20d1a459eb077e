use Rattle.mx_book.proofs.Nearest.{nearest-all, nearest-next}
use Rattle.mx_book.proofs.lookups.nearest_address.Goals as goal

pub loop-label-preserved : goal.loop-label-preserved
loop-label-preserved c =
    nearest-next c.args.labels.now c.loop-label.label-index c.label-item.result c.args.address _ _ _ _ c.loop-label-test.true c.label-item.is c.address_before.ensures
    c.greater-best.ensures c.loop-label.invariant

pub returns : goal.returns
returns c = nearest-all c.args.labels.now c.loop-label.label-index c.args.address _ _ c.loop-label-test.false c.loop-label.invariant

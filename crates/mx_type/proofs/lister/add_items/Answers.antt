use Rattle.mx_type.proofs.Listed.{item-taken, items-done}
use Rattle.mx_type.proofs.lister.add_items.Goals as goal

pub loop-item-preserved : goal.loop-item-preserved
loop-item-preserved c =
    item-taken c.loop-item.lambda _ c.loop-item.text _ c.args.items.now c.loop-item.item-index c.item-item.result _ c.loop-item-test.true c.item-item.is
    c.in_ok-add_item.ensures c.lambda_after-lambda.ensures c.loop-item.invariant

pub returns : goal.returns
returns c = items-done c.loop-item.lambda c.loop-item.text c.args.items.now c.loop-item.item-index _ c.loop-item-test.false c.loop-item.invariant

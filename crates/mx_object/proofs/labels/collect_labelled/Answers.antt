use Rattle.std.proofs.Common.{sym, ◌∙◌}
use Rattle.mx_object.proofs.LabelLists.{labelled-next, labelled-none}
use Rattle.mx_object.proofs.labels.collect_labelled.Goals as goal

pub loop-symbol-init : goal.loop-symbol-init
loop-symbol-init c = c.new-addresses.ensures ∙ sym labelled-none

pub loop-symbol-preserved : goal.loop-symbol-preserved
loop-symbol-preserved c =
    labelled-next c.args.symbols.now c.loop-symbol.symbol-index c.symbol-item.result _ _ c.loop-symbol-test.true c.symbol-item.is c.loop-symbol.invariant c.in_ok-add_tetra.ensures

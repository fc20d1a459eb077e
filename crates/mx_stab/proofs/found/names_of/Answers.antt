use Rattle.mx_stab.proofs.NameSets.{names-next}
use Rattle.mx_stab.proofs.found.names_of.Goals as goal

pub loop-symbol-preserved : goal.loop-symbol-preserved
loop-symbol-preserved c = names-next c.loop-symbol.names c.add.new.names c.args.symbols.now c.loop-symbol.symbol-index c.symbol-item.result c.as_slice.result.now c.loop-symbol-test.true c.symbol-item.is c.loop-symbol.invariant c.in_ok-add.ensures c.as_slice.ensures

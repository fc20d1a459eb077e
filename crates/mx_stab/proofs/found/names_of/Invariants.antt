use Rattle.std.proofs.Common.{take}
use Rattle.mx_stab.specs.Names.{HasNames}
use Rattle.mx_stab.proofs.found.names_of.Given as goal

abbrev pub invariant-loop-symbol : goal.invariant-loop-symbol
invariant-loop-symbol l = HasNames l.names (take l.symbol-index l.symbols)

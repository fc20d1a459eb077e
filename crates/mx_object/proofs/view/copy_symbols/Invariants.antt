use Rattle.std.proofs.Common.{◌≡◌, take}
use Rattle.mx_object.proofs.view.copy_symbols.Given as goal

abbrev pub invariant-loop-symbol : goal.invariant-loop-symbol
invariant-loop-symbol l = l.copies ≡ take l.symbol-index l.symbols

use Rattle.std.proofs.Common.{◌≡◌, ◌++◌, take}
use Rattle.mx_type.proofs.Words.{flat_map, ended, symbol_line}
use Rattle.mx_type.proofs.symbols.add_symbols.Given as goal

abbrev pub invariant-loop-symbol : goal.invariant-loop-symbol
invariant-loop-symbol l = l.text ≡ l.fn.text ++ flat_map (λ s. ended (symbol_line s)) (take l.symbol-index l.symbols)

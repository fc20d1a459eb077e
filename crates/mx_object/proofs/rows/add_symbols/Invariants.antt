use Rattle.std.proofs.Common.{◌≡◌, ◌++◌, take}
use Rattle.std.specs.List.{flat_map}
use Rattle.mx_type.specs.Lines.{ended, symbol_line}
use Rattle.mx_object.proofs.rows.add_symbols.Given as goal

abbrev pub invariant-loop-symbol : goal.invariant-loop-symbol
invariant-loop-symbol l = l.text ≡ l.fn.text ++ flat_map (λ s. ended (symbol_line s)) (take l.symbol-index l.symbols)

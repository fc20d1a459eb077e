use Rattle.std.proofs.Common.{drop, map}
use Rattle.mx_type.specs.Lines.{ended, symbol_line}
use Rattle.mx_files.specs.Clauses.{Leaves}
use Rattle.mx_files.specs.FilePlans.{lines_plan}
use Rattle.mx_files.proofs.typing.put_symbols.Given as goal

-- the lines of the symbols that are left are left to write
abbrev pub invariant-loop-symbol : goal.invariant-loop-symbol
invariant-loop-symbol g l =
    Leaves (g.H.Host.told l.fn.host) (g.H.Host.told l.host) (g.H.Host.faults l.fn.host) (g.H.Host.faults l.host)
    (lines_plan (map (λ s. ended (symbol_line s)) (drop l.symbol-index l.symbols))) (lines_plan (map (λ s. ended (symbol_line s)) l.symbols))

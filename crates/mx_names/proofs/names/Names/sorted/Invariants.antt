use Rattle.std.proofs.Common.{◌≡◌, ◌++◌, map}
use Rattle.mx_names.proofs.Words.{AllByRecursion, symbol_of, IsInRange}
use Rattle.mx_names.proofs.names.Names.sorted.Given as goal

abbrev pub invariant-loop-name : goal.invariant-loop-name
invariant-loop-name l = (l.symbols ++ map (λ e. symbol_of e.0.items e.1) l.name-iterator ≡ map (λ e. symbol_of e.0.items e.1) l.self-inside.defined.entries) × AllByRecursion IsInRange l.symbols

-- What always holds of the names of a source.
use Rattle.std.proofs.Common.{ℕ, List, [], ◌∷◌, rules}
use Rattle.mx_names.proofs.Words.{cond_both, nat_cmp, is_lt, slice_cmp, AllByRecursion, Symbol, Value, NameTable, IsFullName, AreNames, symbols_with, with_symbol}

pub all-inserted : (P : Symbol → Type 0) (new : Symbol) (symbols : List Symbol) → P new → AllByRecursion P symbols → AllByRecursion P (symbols_with new symbols)
all-inserted P new [] p h = (p, tt)
all-inserted P new (s ∷ ss) p h = cond_both (is_lt (slice_cmp nat_cmp new.name s.name)) _ _ (AllByRecursion P) (λ _. (p, h)) (λ _. (h.0, (all-inserted P new ss p h.1)))

-- one symbol more
pub known-with-symbol : (table : NameTable) (full : List ℕ) (value : Value) → AreNames table → IsFullName full → AreNames (with_symbol table full value)
known-with-symbol table full value known is = search (rules, all-inserted)

-- The names of symbols, among which a name is found.
use Rattle.std.specs.Prelude.{◌≡◌, ℕ, Bool, true, List, [], ◌∷◌, Vec}
use Rattle.std.specs.BTreeSet.{BTreeSet, contains_by}
use Rattle.std.specs.Cmp.Lexicographic.{slice_cmp}
use Rattle.std.specs.Ordering.{nat_cmp, is_lt}
use Rattle.mx_word.specs.declared.symbols.Symbol.{Symbol}
use Rattle.mx_stab.specs.Reading.{is_among}

-- whether a name is above the last of these symbols, in byte order
abbrev pub is_above : List ℕ → List Symbol → Bool
is_above name [] = true
is_above name (s ∷ []) = is_lt (slice_cmp nat_cmp s.name name)
is_above name (s ∷ t ∷ more) = is_above name (t ∷ more)

-- whether a name is a key of a set
abbrev pub is_key : {Z : Type 0} → List ℕ → BTreeSet (Vec ℕ Z) → Bool
is_key name names = contains_by (λ k. slice_cmp nat_cmp name k.items) names

-- the keys are the names of these symbols
abbrev pub HasNames : {Z : Type 0} → BTreeSet (Vec ℕ Z) → List Symbol → Type 0
HasNames names symbols = (name : List ℕ) → is_key name names ≡ is_among name symbols

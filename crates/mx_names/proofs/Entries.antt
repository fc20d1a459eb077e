-- What the entries of the map say as a list of symbols.
use Rattle.std.proofs.Common.{ℕ, ◌+◌, ◌≡◌, Bool, true, false, cond, List, [], ◌∷◌, map, length, Option, Some, None, is_some, Ordering, refl, sym, ◌∙◌, ap, arith, bytes_eq, rules}
use Rattle.mx_names.proofs.Words.{option_map, lookup, keys_of, is_at, insert_entry, nat_cmp, is_lt, is_eq, match_ordering, Less, Equal, Greater, slice_cmp, AllByRecursion, is_eq-slice_cmp, bytes_eq-Decides, InByteOrder, IsNamed, Value, Symbol, Wait, IsFullName, value_in, symbols_with, value_of_name, with_symbol, NameTable, Naming, symbol_of, IsInRange}
use Rattle.std.specs.List.Sorted.{IsStrictlySortedBy}
use Rattle.std.proofs.Math.ListN.{length-map}
use Rattle.mx_names.specs.declared.names.Definition.{Definition}

abbrev tabled : List ℕ → List Value → List Wait → List Symbol → Naming
tabled prefix backs waiting symbols = record { names = record { symbols = symbols; prefix = prefix; backs = backs }; waiting = waiting }

abbrev naming_with : Naming → List ℕ → Value → Naming
naming_with n name value = record n { names = with_symbol n.names name value }

abbrev numbered : List ℕ → Value → ℕ → Symbol
numbered name value serial = record { name = name; value = value; serial = serial }

module _ {K : Type 0} (bytes : K → List ℕ) where
  abbrev pub symbols_of : List (K × Definition) → List Symbol
  symbols_of = map (λ e. symbol_of (bytes e.0) e.1)

  pub found : (name : List ℕ) (es : List (K × Definition)) → value_in name (symbols_of es) ≡ option_map (λ d. d.value) (lookup (is_at (λ k. slice_cmp nat_cmp name (bytes k))) es)
  found name [] = refl
  found name (e ∷ es) = search (rules, is_eq-slice_cmp, found name es)

  -- an entry in its place is a symbol in its place, where the name is new
  pub put-in : (k : K) (d : Definition) (es : List (K × Definition)) → value_in (bytes k) (symbols_of es) ≡ None → symbols_of (insert_entry (λ x y. slice_cmp nat_cmp (bytes x) (bytes y)) es k d) ≡ symbols_with (symbol_of (bytes k) d) (symbols_of es)
  put-in k d [] absent = refl
  put-in k d (e ∷ es) absent = put-step (slice_cmp nat_cmp (bytes k) (bytes e.0)) (bytes_eq (bytes k) (bytes e.0)) (is_eq-slice_cmp (bytes k) (bytes e.0)) absent (put-in k d es)
    where
      put-step : (o : Ordering) (b : Bool) → is_eq o ≡ b → cond b (Some e.1.value) (value_in (bytes k) (symbols_of es)) ≡ None → (value_in (bytes k) (symbols_of es) ≡ None → symbols_of (insert_entry (λ x y. slice_cmp nat_cmp (bytes x) (bytes y)) es k d) ≡ symbols_with (symbol_of (bytes k) d) (symbols_of es)) → symbols_of (match_ordering o ((k, d) ∷ e ∷ es) ((e.0, d) ∷ es) (e ∷ insert_entry (λ x y. slice_cmp nat_cmp (bytes x) (bytes y)) es k d)) ≡ cond (is_lt o) (symbol_of (bytes k) d ∷ symbols_of (e ∷ es)) (symbol_of (bytes e.0) e.1 ∷ symbols_with (symbol_of (bytes k) d) (symbols_of es))
      put-step Less b same out rest = refl
      put-step Equal true same out rest = cc
      put-step Equal false same out rest = cc
      put-step Greater true same out rest = cc
      put-step Greater false same out rest = ap (λ l. symbol_of (bytes e.0) e.1 ∷ l) (rest out)

  -- the symbols after one is put in
  pub table-put : (es more : List (K × Definition)) (prefix : List ℕ) (backs : List Value) (waiting : List Wait) (k : K) (full : List ℕ) (value : Value) (serial : ℕ) (table : Naming) → tabled prefix backs waiting (symbols_of es) ≡ table → bytes k ≡ full → serial ≡ length es + 1 → value_in full table.names.symbols ≡ None → more ≡ insert_entry (λ x y. slice_cmp nat_cmp (bytes x) (bytes y)) es k (record { value = value; serial = serial }) → tabled prefix backs waiting (symbols_of more) ≡ naming_with table full value
  table-put es more prefix backs waiting k full value serial table is named counted absent grown = grind (arith, put-in, length-map)

  -- the names in the order of the keys
  all-named : (name : List ℕ) (es : List (K × Definition)) → AllByRecursion (λ k. slice_cmp nat_cmp name (bytes k) ≡ Less) (keys_of es) → AllByRecursion (λ n. slice_cmp nat_cmp name n ≡ Less) (map (λ (s : Symbol). s.name) (symbols_of es))
  all-named name [] h = h
  all-named name (e ∷ es) h = (h.0, all-named name es h.1)

  pub in-order : (es : List (K × Definition)) → IsStrictlySortedBy (λ x y. slice_cmp nat_cmp (bytes x) (bytes y)) (keys_of es) → InByteOrder (symbols_of es)
  unfolding IsStrictlySortedBy
  in-order [] h = h
  in-order (e ∷ es) h = (all-named (bytes e.0) es h.0, in-order es h.1)

-- symbols in their ranges, with names that fit
pub all-are-named : (symbols : List Symbol) → AllByRecursion (λ (s : Symbol). IsFullName s.name) symbols → AllByRecursion IsInRange symbols → AllByRecursion IsNamed symbols
all-are-named [] full ranged = tt
all-are-named (s ∷ more) full ranged = (record { bytes = ranged.0.bytes; least = omega (arith, full.0.least); most = full.0.most; value = ranged.0.value; serial = ranged.0.serial }, all-are-named more full.1 ranged.1)

none-first : (b : Bool) (v : Value) (rest : Option Value) → cond b (Some v) rest ≡ None → b ≡ false
none-first b v rest h = grind arith

none-rest : (b : Bool) (v : Value) (rest : Option Value) → cond b (Some v) rest ≡ None → rest ≡ None
none-rest b v rest h = grind arith

swapped : (here is : Bool) (a b c : Option Value) → (is ≡ true → here ≡ true → false ≡ true) → cond here a (cond is b c) ≡ cond is b (cond here a c)
swapped here is a b c h = grind arith

-- a look-up after a symbol is put in
pub value-inserted : (new : Symbol) (symbols : List Symbol) (name : List ℕ) → value_in new.name symbols ≡ None → value_in name (symbols_with new symbols) ≡ cond (bytes_eq name new.name) (Some new.value) (value_in name symbols)
value-inserted new [] name absent = refl
value-inserted new (s ∷ ss) name absent = by (is_lt (slice_cmp nat_cmp new.name s.name)) (value-inserted new ss name (none-rest _ s.value _ absent))
  where
    apart : bytes_eq name new.name ≡ true → bytes_eq name s.name ≡ true → false ≡ true
    apart p q = sym (none-first _ s.value _ absent) ∙ (bytes_eq-Decides new.name s.name).1 (sym ((bytes_eq-Decides name new.name).0 p) ∙ (bytes_eq-Decides name s.name).0 q)

    by : (lt : Bool) → value_in name (symbols_with new ss) ≡ cond (bytes_eq name new.name) (Some new.value) (value_in name ss) → value_in name (cond lt (new ∷ s ∷ ss) (s ∷ symbols_with new ss)) ≡ cond (bytes_eq name new.name) (Some new.value) (cond (bytes_eq name s.name) (Some s.value) (value_in name ss))
    by true rest = refl
    by false rest = ap (λ r. cond (bytes_eq name s.name) (Some s.value) r) rest ∙ swapped _ _ _ _ _ apart

-- the value of each name after a definition
pub value-defined : (table : NameTable) (full : List ℕ) (value : Value) (name : List ℕ) → value_in full table.symbols ≡ None → value_of_name (with_symbol table full value) name ≡ cond (bytes_eq name full) (Some value) (value_of_name table name)
value-defined table full value name absent = search (rules, value-inserted)

pub not-some : {A : Type 0} (o : Option A) → is_some o ≡ false → o ≡ None
not-some o h = grind arith

pub some-mapped : {A B : Type 0} (f : A → B) (o : Option A) → is_some o ≡ is_some (option_map f o)
some-mapped f o = grind arith

-- one symbol more
pub length-inserted : (new : Symbol) (symbols : List Symbol) → length (symbols_with new symbols) ≡ length symbols + 1
length-inserted new [] = refl
length-inserted new (s ∷ ss) = search (rules, length-inserted new ss)

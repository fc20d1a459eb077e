-- What a binary search in a rising list finds, against a look-up in a table that lists the same names.
use Rattle.std.proofs.Common.{ℕ, zero, suc, add-one, ◌⊎◌, ⊎_elim, ◌+◌, ◌<◌, ◌≤◌, ◌≡◌, Bool, true, false, not, ◌&&◌, ◌||◌, cond, List, [], ◌∷◌, map, length, get_or, Option, Some, None, Result, Ok, Err, MatchResult, refl, sym, ◌∙◌, ap, arith, bytes_eq, nat_cmp, is_lt, is_eq}
use Rattle.mx_ops.proofs.Words.{slice_cmp, and_parts, cases_lt, not-true, bytes_eq-Decides, first_of}
use Rattle.std.specs.List.Sorted.{IsBinarySearchResult, IsSearchInRange}
use Rattle.std.proofs.lemmas.List.{get_or-map}
use Rattle.std.proofs.lemmas.List.Sorted.{searchable_from_sorted}
use Rattle.std.proofs.lemmas.Cmp.{nat_list_cmp_total}
use Rattle.std.proofs.lemmas.Map.Text.{is_eq-slice_cmp}

-- no name is above the next one
abbrev pub rising : {X : Type 0} → (X → List ℕ) → List X → Bool
rising key [] = true
rising key (x ∷ []) = true
rising key (x ∷ y ∷ ys) = not (is_lt (slice_cmp nat_cmp (key y) (key x))) && rising key (y ∷ ys)

-- some element has this name
abbrev pub among : {X : Type 0} → (X → List ℕ) → List ℕ → List X → Bool
among key name [] = false
among key name (x ∷ xs) = bytes_eq (key x) name || among key name xs

-- each name of the table is among the elements
abbrev pub covers : {X A : Type 0} → (X → List ℕ) → List X → List (List ℕ × A) → Bool
covers key xs [] = true
covers key xs (entry ∷ entries) = among key entry.0 xs && covers key xs entries

pub same-name : (a b : List ℕ) → bytes_eq a b ≡ true → a ≡ b
same-name a b h = (bytes_eq-Decides a b).0 h

-- what is at a place after the first is what is in the rest at the place before
later : {X : Type 0} (x : X) (xs : List X) (k : ℕ) (d : X) → get_or (x ∷ xs) (suc k + 1) d ≡ get_or xs (k + 1) d
later x xs k d = rw add-one (rw add-one refl)

sorted : {X : Type 0} (key : X → List ℕ) (xs : List X) → rising key xs ≡ true → (k : ℕ) (d : X) → k + 1 < length xs → is_lt (slice_cmp nat_cmp (key (get_or xs (k + 1) d)) (key (get_or xs k d))) ≡ false
sorted key (x ∷ y ∷ ys) up zero d lt = not-true _ (and_parts _ _ up).0
sorted key (x ∷ y ∷ ys) up (suc k) d lt =
    ap (λ z. is_lt (slice_cmp nat_cmp (key z) (key (get_or (y ∷ ys) k d)))) (later x (y ∷ ys) k d) ∙ sorted key (y ∷ ys) (and_parts _ _ up).1 k d (omega arith)
sorted key xs up k d lt = absurd (omega arith)

-- an element with this name, where there is one
absent : {X : Type 0} (key : X → List ℕ) (name : List ℕ) (xs : List X) → ((k : ℕ) (d : X) → k < length xs → bytes_eq (key (get_or xs k d)) name ≡ false) → among key name xs ≡ false
absent key name [] h = refl
absent key name (x ∷ xs) h =
    let first : bytes_eq (key x) name ≡ false = h 0 x (omega arith) in
    let rest : among key name xs ≡ false = absent key name xs (λ k d lt. h (suc k) d (omega arith)) in
    rw first rest

skipped : {A : Type 0} (b : Bool) (v : A) (rest : Option A) → (b ≡ true → false ≡ true) → rest ≡ None → cond b (Some v) rest ≡ None
skipped true v rest h none = cc (h refl)
skipped false v rest h none = none

lt_or_le : (k i : ℕ) → (k < i) ⊎ (i ≤ k)
lt_or_le k i = cases_lt k i

-- a name that is not among the elements is not in a table that they cover
none-covered : {X A : Type 0} (key : X → List ℕ) (xs : List X) (name : List ℕ) (table : List (List ℕ × A)) → covers key xs table ≡ true → among key name xs ≡ false → first_of name table ≡ None
none-covered key xs name [] all out = refl
none-covered key xs name (entry ∷ entries) all out =
    let rest : first_of name entries ≡ None = none-covered key xs name entries (and_parts _ _ all).1 out in
    let here : bytes_eq entry.0 name ≡ true → false ≡ true = λ same. sym out ∙ ap (λ n. among key n xs) (sym (same-name _ _ same)) ∙ (and_parts _ _ all).0 in
    skipped (bytes_eq entry.0 name) entry.1 (first_of name entries) here rest

-- what the search found is what the table says
pub searched : {X A : Type 0} (key : X → List ℕ) (value : X → A) (xs : List X) (table : List (List ℕ × A)) (name : List ℕ) (r : Result ℕ ℕ)
    → rising key xs ≡ true → map (λ x. first_of (key x) table) xs ≡ map (λ x. Some (value x)) xs → covers key xs table ≡ true
    → IsSearchInRange r (length xs) → IsBinarySearchResult (λ x. slice_cmp nat_cmp (key x) name) xs r
    → MatchResult r (λ i. (d : X) → first_of name table ≡ Some (value (get_or xs i d))) (λ _. first_of name table ≡ None)
searched key value xs table name (Ok i) up same all within found = λ d.
    let named : key (get_or xs i d) ≡ name = same-name _ _ (sym (is_eq-slice_cmp (key (get_or xs i d)) name) ∙ ap is_eq (found d)) in
    ap (λ n. first_of n table) (sym named)
    ∙ sym (get_or-map (λ x. first_of (key x) table) xs i d None within)
    ∙ ap (λ l. get_or l i None) same
    ∙ get_or-map (λ x. Some (value x)) xs i d None within
searched {X} key value xs table name (Err i) up same all within found =
    let parts = found (searchable_from_sorted nat_list_cmp_total key xs name (λ k d low high. sorted key xs up k d high)) in
    none-covered key xs name table all (absent key name xs (λ k d lt.
    sym (is_eq-slice_cmp (key (get_or xs k d)) name) ∙
    ⊎_elim (λ below. ap is_eq (parts.0 k d (omega arith) below)) (λ above. ap is_eq (parts.1 k d above lt)) (lt_or_le k i)))

-- The list rises, and says what the table says.
pub record Lists {X A : Type 0} (key : X → List ℕ) (value : X → A) (table : List (List ℕ × A)) (xs : List X) : Type 0 where
  pub rises : rising key xs ≡ true
  pub agrees : map (λ x. first_of (key x) table) xs ≡ map (λ x. Some (value x)) xs
  pub covered : covers key xs table ≡ true

abbrev pub plain : {X A : Type 0} → (X → List ℕ) → (X → A) → X → List ℕ × A
plain key value x = (key x, value x)

rising-plain : {X A : Type 0} (key : X → List ℕ) (value : X → A) (xs : List X) → rising key xs ≡ rising (λ (e : List ℕ × A). e.0) (map (plain key value) xs)
rising-plain key value (x ∷ y ∷ ys) = ap (λ b. not (is_lt (slice_cmp nat_cmp (key y) (key x))) && b) (rising-plain key value (y ∷ ys))
rising-plain key value xs = refl

among-plain : {X A : Type 0} (key : X → List ℕ) (value : X → A) (name : List ℕ) (xs : List X) → among key name xs ≡ among (λ (e : List ℕ × A). e.0) name (map (plain key value) xs)
among-plain key value name [] = refl
among-plain key value name (x ∷ xs) = ap (λ b. bytes_eq (key x) name || b) (among-plain key value name xs)

covers-plain : {X A : Type 0} (key : X → List ℕ) (value : X → A) (xs : List X) (table : List (List ℕ × A)) → covers key xs table ≡ covers (λ (e : List ℕ × A). e.0) (map (plain key value) xs) table
covers-plain key value xs [] = refl
covers-plain key value xs (entry ∷ entries) = rw (among-plain key value entry.0 xs, covers-plain key value xs entries) refl

map-plain : {X A B : Type 0} (key : X → List ℕ) (value : X → A) (f : List ℕ × A → B) (xs : List X) → map (λ x. f (key x, value x)) xs ≡ map f (map (plain key value) xs)
map-plain key value f [] = refl
map-plain key value f (x ∷ xs) = ap (λ l. f (key x, value x) ∷ l) (map-plain key value f xs)

pub lists-plain : {X A : Type 0} (key : X → List ℕ) (value : X → A) (table : List (List ℕ × A)) (xs : List X) (ys : List (List ℕ × A)) → map (plain key value) xs ≡ ys → Lists (λ (e : List ℕ × A). e.0) (λ (e : List ℕ × A). e.1) table ys → Lists key value table xs
lists-plain key value table xs ys same l = record {
  rises = rising-plain key value xs ∙ ap (rising (λ e. e.0)) same ∙ l.rises;
  agrees = map-plain key value (λ e. first_of e.0 table) xs ∙ ap (map (λ e. first_of e.0 table)) same ∙ l.agrees ∙ ap (map (λ e. Some e.1)) (sym same) ∙ sym (map-plain key value (λ e. Some e.1) xs);
  covered = covers-plain key value xs table ∙ ap (λ l. covers (λ e. e.0) l table) same ∙ l.covered;
}

pub found : {X A : Type 0} (key : X → List ℕ) (value : X → A) (xs : List X) (table : List (List ℕ × A)) (name : List ℕ) (r : Result ℕ ℕ)
    → Lists key value table xs
    → IsSearchInRange r (length xs) → IsBinarySearchResult (λ x. slice_cmp nat_cmp (key x) name) xs r
    → MatchResult r (λ i. (d : X) → first_of name table ≡ Some (value (get_or xs i d))) (λ _. first_of name table ≡ None)
found key value xs table name r l within by = searched key value xs table name r l.rises l.agrees l.covered within by

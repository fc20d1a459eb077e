-- The cells of a list, one after another.
use Rattle.std.proofs.Common.{◌≡◌, ℕ, ◌==◌, ◌≤◌, ◌-◌, Bool, List, [], ◌∷◌, ◌++◌, length, map, take, drop, get_or, arith, append_assoc, append-nil, refl, sym, ap, rules}
use Rattle.std.proofs.lemmas.List.{length-map, take_all}
use Rattle.mx_explain.specs.Topics.{Row}
use Rattle.face_explain.specs.Lists.{cells, cell, next_left}

pub cells-none : {A : Type 0} (g : A → Row) (width most left : ℕ) (text : List ℕ) (xs : List A) → length xs ≡ 0 → text ++ cells g width most left xs ≡ text
unfolding cells
cells-none g width most left text [] none = append-nil text
cells-none g width most left text (x ∷ xs) none = absurd (search rules)

pub cells-more : {A : Type 0} (g : A → Row) (width most left : ℕ) (text : List ℕ) (x : A) (xs : List A) →
    text ++ cells g width most left (x ∷ xs) ≡ (text ++ cell width (length xs == 0) left (g x)) ++ cells g width most (next_left most left) xs
unfolding cells
cells-more g width most left text x xs = sym (append_assoc text (cell width (length xs == 0) left (g x)) (cells g width most (next_left most left) xs))

-- the same of a list with a first element, whose row this is
pub cells-at : {A : Type 0} (g : A → Row) (width most left : ℕ) (text : List ℕ) (xs : List A) (d : A) (r : Row) (last : Bool) → 1 ≤ length xs → r ≡ g (get_or xs 0 d) →
    last ≡ (length (take (length xs - 1) (drop 1 xs)) == 0) →
    text ++ cells g width most left xs ≡ (text ++ cell width last left r) ++ cells g width most (next_left most left) (take (length xs - 1) (drop 1 xs))
cells-at g width most left text [] d r last some e f = absurd (omega (arith, some))
cells-at g width most left text (x ∷ xs) d r last some e f =
    let whole : take (length (x ∷ xs) - 1) xs ≡ xs = take_all (length (x ∷ xs) - 1) xs (omega arith) in
    rw (e, f, whole) (cells-more g width most left text x xs)

-- the cells of the rows of elements are those of these rows
pub cells-mapped : {A : Type 0} (xs : List A) (g : A → Row) (width most left : ℕ) → cells g width most left xs ≡ cells (λ r. r) width most left (map g xs)
unfolding cells
cells-mapped [] g width most left = refl
cells-mapped (x ∷ xs) g width most left =
    rw (length-map xs g) (ap (λ t. cell width (length xs == 0) left (g x) ++ t) (cells-mapped xs g width most (next_left most left)))

pub ruleset turns = (cells-none, cells-more)

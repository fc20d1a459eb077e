-- The items of bytes: one step, and what more bytes add.
use Rattle.std.proofs.Common.{◌≡◌, ℕ, zero, suc, ◌+◌, ◌<◌, ◌≤◌, length, List, [], ◌∷◌, ◌++◌, drop, arith, refl, sym, ◌∙◌, ap, Ok, Err, Some, None, length-drop, rules}
use Rattle.mx_mmo.proofs.Words.{common_steps, Due, IsWithin, first_item, phase_after, Walk, after_item, walk_on, walk, items_of, extended, Item, MmoFault, Phase, nat_tests}
use Rattle.mx_mmo.proofs.Firsts.{Grows, first-grows, first-within}

pub shorter : (size : ℕ) (bytes : List ℕ) → 0 < size → size ≤ length bytes → length (drop size bytes) < length bytes
shorter size bytes p q = omega (arith, length-drop size bytes)

walk_on-same : (f g : Phase → ℕ → List ℕ → Walk) (phase : Phase) (at : ℕ) (bytes : List ℕ) (d : Due) → IsWithin d (length bytes) →
    ((p : Phase) (a : ℕ) (bs : List ℕ) → length bs < length bytes → f p a bs ≡ g p a bs) → walk_on f phase at bytes d ≡ walk_on g phase at bytes d
walk_on-same f g phase at bytes d h1 h2 = grind (arith, common_steps, nat_tests)

-- as many steps as bytes are enough
enough : (n m : ℕ) (phase : Phase) (at : ℕ) (bytes : List ℕ) → length bytes ≤ n → length bytes ≤ m → walk n phase at bytes ≡ walk m phase at bytes
unfolding walk
enough zero (suc m) phase at (b ∷ bs) p q = absurd (omega arith)
enough (suc n) zero phase at (b ∷ bs) p q = absurd (omega arith)
enough (suc n) (suc m) phase at bytes p q =
    walk_on-same (walk n) (walk m) phase at bytes _ (first-within phase at bytes) (λ f a bs l. enough n m f a bs (omega arith) (omega arith))
enough n m phase at bytes p q = refl

-- the items of bytes are the first and those of the bytes after it
pub items-step : (phase : Phase) (at : ℕ) (bytes : List ℕ) → items_of phase at bytes ≡ walk_on items_of phase at bytes (first_item phase at bytes)
unfolding walk items_of
items-step phase at bytes = search (rules, walk_on-same, first-within, enough)

pub items-more : (phase : Phase) (at : ℕ) (bytes : List ℕ) (item : Item) (size : ℕ) → first_item phase at bytes ≡ Ok (Some (item, size)) →
    items_of phase at bytes ≡ after_item item (items_of (phase_after item phase) (at + size) (drop size bytes))
items-more phase at bytes item size e = items-step phase at bytes ∙ ap (walk_on items_of phase at bytes) e

pub items-none : (phase : Phase) (at : ℕ) (bytes : List ℕ) → first_item phase at bytes ≡ Ok None →
    items_of phase at bytes ≡ ([], Ok (record { phase = phase; at = at; rest = bytes }))
items-none phase at bytes e = items-step phase at bytes ∙ ap (walk_on items_of phase at bytes) e

pub items-fault : (phase : Phase) (at : ℕ) (bytes : List ℕ) (fault : MmoFault) → first_item phase at bytes ≡ Err fault →
    items_of phase at bytes ≡ ([], Err fault)
items-fault phase at bytes fault e = items-step phase at bytes ∙ ap (walk_on items_of phase at bytes) e

extended-after : (item : Item) (w : Walk) (ys : List ℕ) → extended (after_item item w) ys ≡ after_item item (extended w ys)
extended-after item w ys = grind arith

abbrev Extends : Phase → ℕ → List ℕ → List ℕ → Type 0
Extends phase at xs ys = items_of phase at (xs ++ ys) ≡ extended (items_of phase at xs) ys

extend-step : (phase : Phase) (at : ℕ) (xs ys : List ℕ) (d : Due) → first_item phase at xs ≡ d → IsWithin d (length xs) → Grows d (first_item phase at (xs ++ ys)) →
    ((p : Phase) (a : ℕ) (zs : List ℕ) → length zs < length xs → Extends p a zs ys) → Extends phase at xs ys
extend-step phase at xs ys (Ok None) e w g h = ap (λ v. extended v ys) (sym (items-none phase at xs e))
extend-step phase at xs ys (Err fault) e w g h = items-fault phase at (xs ++ ys) fault g ∙ ap (λ v. extended v ys) (sym (items-fault phase at xs fault e))
extend-step phase at xs ys (Ok (Some (item, size))) e w g h =
    items-more phase at (xs ++ ys) item size g
    ∙ ap (λ bs. after_item item (items_of (phase_after item phase) (at + size) bs)) (grind (arith, common_steps, w.1))
    ∙ ap (after_item item) (h (phase_after item phase) (at + size) (drop size xs) (shorter size xs w.0 w.1))
    ∙ sym (extended-after item (items_of (phase_after item phase) (at + size) (drop size xs)) ys)
    ∙ ap (λ v. extended v ys) (sym (items-more phase at xs item size e))

extends-below : (k : ℕ) (phase : Phase) (at : ℕ) (xs ys : List ℕ) → length xs < k → Extends phase at xs ys
extends-below zero phase at xs ys l = absurd (omega arith)
extends-below (suc k) phase at xs ys l =
    extend-step phase at xs ys (first_item phase at xs) refl (first-within phase at xs) (first-grows phase at xs ys) (λ p a zs m. extends-below k p a zs ys (omega arith))

pub extends : (phase : Phase) (at : ℕ) (xs ys : List ℕ) → items_of phase at (xs ++ ys) ≡ extended (items_of phase at xs) ys
extends phase at xs ys = extends-below (suc (length xs)) phase at xs ys (omega arith)

-- The globals of an image, one after another.
use Rattle.std.proofs.Common.{◌≡◌, ◌≤◌, ℕ, ◌+◌, ◌-◌, List, [], ◌∷◌, ◌++◌, length, map, arith, refl, sym, ap, ◌∙◌}
use Rattle.std.specs.List.{range_with_len}
use Rattle.std.proofs.lemmas.List.FromFn.{map-range_with_len_more, length-map-range_with_len}

-- values of a function, from a number on
pub built-none : (f : ℕ → ℕ) (g k : ℕ) → k ≡ g → [] ≡ map f (range_with_len g (k - g))
built-none f g k e = let none : k - g ≡ 0 = omega (arith, e) in rw none refl

pub built-more : (f : ℕ → ℕ) (g k x : ℕ) (xs : List ℕ) → xs ≡ map f (range_with_len g (k - g)) → g ≤ k → x ≡ f k → xs ++ x ∷ [] ≡ map f (range_with_len g (k + 1 - g))
built-more f g k x xs e l v =
    let next : k + 1 - g ≡ (k - g) + 1 = omega (arith, l) in
    let last : g + (k - g) ≡ k = omega (arith, l) in
    ap (λ ys. ys ++ x ∷ []) e ∙ ap (λ y. map f (range_with_len g (k - g)) ++ y ∷ []) v ∙ sym (map-range_with_len_more f g (k - g) k last) ∙ ap (λ n. map f (range_with_len g n)) (sym next)

pub built-all : (f : ℕ → ℕ) (g k : ℕ) (xs : List ℕ) → xs ≡ map f (range_with_len g (k - g)) → 256 ≤ k → k ≤ 256 → xs ≡ map f (range_with_len g (256 - g))
built-all f g k xs e l m = let all : k ≡ 256 = omega (arith, l, m) in e ∙ ap (λ j. map f (range_with_len g (j - g))) all

pub built-count : (f : ℕ → ℕ) (g k : ℕ) (xs : List ℕ) → xs ≡ map f (range_with_len g (k - g)) → 256 ≤ k → k ≤ 256 → g ≤ k → length xs + g ≡ 256
built-count f g k xs e l m b = omega (arith, ap (λ (ys : List ℕ). length ys) e, length-map-range_with_len f g (k - g), l, m, b)

pub ruleset growing = (built-none, built-more, built-all, built-count)

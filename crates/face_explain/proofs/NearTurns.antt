-- Two words, letter by letter.
use Rattle.std.proofs.Common.{◌≡◌, ◌≤◌, ℕ, ◌-◌, true, false, List, [], ◌∷◌, drop, take, length, slice_index_or, refl, sym, ap, ◌∙◌, arith, rules}
use Rattle.std.proofs.lemmas.List.{take_all}
use Rattle.std.specs.Char.{eq_ignore_ascii_case}
use Rattle.face_explain.specs.Near.{is_within_one, is_one_off}

pub near-none : (word name : List ℕ) → length word ≡ 0 → is_within_one word name ≡ is_one_off word name
unfolding is_within_one
near-none [] name e = refl
near-none (a ∷ word) name e = absurd (search rules)

pub near-end : (word name : List ℕ) → length name ≡ 0 → is_within_one word name ≡ is_one_off word name
unfolding is_within_one
near-end [] name e = refl
near-end (a ∷ word) [] e = refl
near-end (a ∷ word) (b ∷ name) e = absurd (search rules)

pub near-same : (a b : ℕ) (word name : List ℕ) → eq_ignore_ascii_case a b ≡ true → is_within_one (a ∷ word) (b ∷ name) ≡ is_within_one word name
unfolding is_within_one
near-same a b word name e = rw e refl

pub near-other : (a b : ℕ) (word name : List ℕ) → eq_ignore_ascii_case a b ≡ false → is_within_one (a ∷ word) (b ∷ name) ≡ is_one_off (a ∷ word) (b ∷ name)
unfolding is_within_one
near-other a b word name e = rw e refl

whole : (x : ℕ) (xs : List ℕ) → take (length (x ∷ xs) - 1) xs ≡ xs
whole x xs = take_all (length (x ∷ xs) - 1) xs (omega arith)

-- the same of words with a first letter
pub near-at : (left right : List ℕ) → 1 ≤ length left → 1 ≤ length right → eq_ignore_ascii_case (slice_index_or left 0 0) (slice_index_or right 0 0) ≡ true →
    is_within_one left right ≡ is_within_one (take (length left - 1) (drop 1 left)) (take (length right - 1) (drop 1 right))
near-at [] right some other e = absurd (omega (arith, some))
near-at (a ∷ word) [] some other e = absurd (omega (arith, other))
near-at (a ∷ word) (b ∷ name) some other e = near-same a b word name e ∙ ap (λ t. is_within_one t name) (sym (whole a word)) ∙ ap (λ t. is_within_one (take (length (a ∷ word) - 1) word) t) (sym (whole b name))

pub near-apart : (left right : List ℕ) → 1 ≤ length left → 1 ≤ length right → eq_ignore_ascii_case (slice_index_or left 0 0) (slice_index_or right 0 0) ≡ false →
    is_within_one left right ≡ is_one_off left right
near-apart [] right some other e = absurd (omega (arith, some))
near-apart (a ∷ word) [] some other e = absurd (omega (arith, other))
near-apart (a ∷ word) (b ∷ name) some other e = near-other a b word name e

pub ruleset turns = (near-none, near-end, near-at, near-apart)

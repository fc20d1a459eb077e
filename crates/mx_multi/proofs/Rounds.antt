-- Places in names that are repeated, and rows of one name.
use Rattle.std.proofs.Common.{◌≡◌, ◌<◌, ◌≤◌, ℕ, suc, ◌+◌, ◌-◌, ◌%◌, List, length, get_or, arith, sym, subst, ap, ◌∙◌, ⊎_elim}
use Rattle.std.proofs.lemmas.Bool.{cases_eq}
use Rattle.std.proofs.Math.Nat.{add-mod-mod, mod-add-mod, mod-eq-sub-mod, mod-eq_of_lt, mod-lt}
use Rattle.mx_multi.specs.Stretches.{IsPlaceFrom, IsRow, place_after}

-- ---- places

pub place-here : (count at : ℕ) → at < count → place_after count at 0 ≡ at
unfolding place_after
place-here count at l = let none : at + 0 ≡ at = omega arith in ap (λ p. p % count) none ∙ mod-eq_of_lt l

pub place-within : (count at n : ℕ) → at + n < count → place_after count at n ≡ at + n
unfolding place_after
place-within count at n l = mod-eq_of_lt l

pub place-past : (count at n : ℕ) → count ≤ at + n → at + n < count + count → place_after count at n ≡ at + n - count
unfolding place_after
place-past count at n far near = mod-eq-sub-mod far ∙ mod-eq_of_lt (omega (arith, far, near))

pub place-below : (count at n : ℕ) → at < count → place_after count at n < count
unfolding place_after
place-below count at n l = mod-lt (at + n) (omega (arith, l))

pub next-below : (count at n next : ℕ) → at < count → next ≡ place_after count at n → next < count
next-below count at n next l e = subst (λ p. p < count) (sym e) (place-below count at n l)

-- after as many as are left of so many rounds
pub place-rounds : (count at n : ℕ) → place_after count at (n % count) ≡ place_after count at n
unfolding place_after
place-rounds count at n = add-mod-mod at n count

below-most : (a b : ℕ) → a < b → a ≤ b
below-most a b l = omega (arith, l)

pub rest-below : (count at n : ℕ) → at < count → n % count ≤ count
rest-below count at n l = below-most (n % count) count (mod-lt n (omega (arith, l)))

pub place-then : (count at a b : ℕ) → place_after count (place_after count at a) b ≡ place_after count at (a + b)
unfolding place_after
place-then count at a b = let same : at + a + b ≡ at + (a + b) = omega arith in mod-add-mod (at + a) count b ∙ ap (λ p. p % count) same

pub place-next : (count at n : ℕ) → place_after count (place_after count at n) 1 ≡ place_after count at (n + 1)
place-next count at n = place-then count at n 1

-- ---- the place of the next turn

after-within : (count at : ℕ) → at + 1 < count → place_after count at 1 ≡ at + 1
after-within count at l = place-within count at 1 l

after-last : (count at : ℕ) → at < count → count ≤ at + 1 → place_after count at 1 ≡ 0
after-last count at l far = let none : at + 1 - count ≡ 0 = omega (arith, l) in place-past count at 1 far (omega (arith, l)) ∙ none

pub place-from : (names : List ℕ) (at : ℕ) → at < length names → IsPlaceFrom names (at + 1) (place_after (length names) at 1)
place-from names at l = record {
  inside = place-below (length names) at 1 l;
  same = λ h. after-within (length names) at h;
  again = λ h. after-last (length names) at l h;
}

-- ---- rows

pub row-one : (names : List ℕ) (at : ℕ) → at < length names → IsRow names at 1 (get_or names at 0)
row-one names at l = record { same = λ i h. (let first : i ≡ 0 = omega (arith, h) in ap (λ k. get_or names (place_after (length names) at k) 0) first ∙ ap (λ p. get_or names p 0) (place-here (length names) at l)) }

pub row-more : (names : List ℕ) (at n next who : ℕ) → next ≡ place_after (length names) at n → get_or names next 0 ≡ who → IsRow names at n who → IsRow names at (n + 1) who
row-more names at n next who e h row = record {
  same = λ i l.
      ⊎_elim (λ last. ap (λ k. get_or names (place_after (length names) at k) 0) last ∙ ap (λ p. get_or names p 0) (sym e) ∙ h) (λ before. row.same i (omega (arith, l, before)))
      (cases_eq i n);
}

pub row-less : (names : List ℕ) (at n k who : ℕ) → k ≤ n → IsRow names at n who → IsRow names at k who
row-less names at n k who l row = record { same = λ i h. row.same i (omega (arith, h, l)) }

-- where a round is of one processor, all turns are
pub row-round : (names : List ℕ) (at n m who : ℕ) → m ≡ length names → at < length names → IsRow names at m who → IsRow names at n who
row-round names at n m who whole l row = record {
  same = λ i h.
      ap (λ p. get_or names p 0) (sym (place-rounds (length names) at i))
      ∙ row.same (i % length names) (subst (λ k. i % length names < k) (sym whole) (mod-lt i (omega (arith, l))));
}

-- the row after its first turn
pub row-rest : (names : List ℕ) (at n who : ℕ) → IsRow names at (suc n) who → IsRow names (place_after (length names) at 1) n who
row-rest names at n who row = record {
  same = λ i h.
      (let after : 1 + i ≡ suc i = omega arith in
      ap (λ p. get_or names p 0) (place-then (length names) at 1 i ∙ ap (λ k. place_after (length names) at k) after) ∙ row.same (suc i) (omega (arith, h)));
}

pub row-first : (names : List ℕ) (at n who : ℕ) → at < length names → IsRow names at (suc n) who → get_or names at 0 ≡ who
row-first names at n who l row = ap (λ p. get_or names p 0) (sym (place-here (length names) at l)) ∙ row.same 0 (omega arith)

pub ruleset rounds = (place-here, place-within, place-past, place-below, place-rounds, place-next, rest-below, row-one, row-more, row-less, row-round)

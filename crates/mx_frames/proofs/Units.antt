-- Units of a text, and places.
use Rattle.std.proofs.Common.{◌≡◌, ◌≢◌, ◌≤◌, ◌<◌, le_refl, ℕ, zero, suc, ◌+◌, ◌-◌, ◌==◌, ◌&&◌, Bool, true, false, not, List, [], ◌∷◌, ◌++◌, length, take, drop, refl, ap, sym, ◌∙◌, arith}
use Rattle.std.proofs.lemmas.Bool.Decides.{nat_tests}
use Rattle.std.proofs.lemmas.Grind.{common_steps}
use Rattle.mx_frames.specs.Columns.{column_of, is_boundary, place_of, total, units}

take-none : (n : ℕ) → ◌≡◌ {A = List ℕ} (take n []) []
take-none zero = refl
take-none (suc n) = refl

ascend : (line : List ℕ) (place other : ℕ) → place ≤ other → total (take place line) ≤ total (take other line)
unfolding total
ascend [] place other le = rw (take-none place, take-none other) (le_refl 0)
ascend (b ∷ line) zero other le = omega arith
ascend (b ∷ line) (suc place) zero le = absurd (omega (arith, le))
ascend (b ∷ line) (suc place) (suc other) le = let later = ascend line place other (omega (arith, le)) in omega (arith, later)

pub columns-ascend : (line : List ℕ) (place other : ℕ) → place ≤ other → column_of line place ≤ column_of line other
columns-ascend line place other le = ascend line place other le

first-place : (b : ℕ) (bs : List ℕ) → not (units b == 0) ≡ true → place_of (b ∷ bs) 0 ≡ 0
unfolding place_of
first-place b bs e = rw e refl

not-both : (u c : ℕ) → ((u + c == 0) && not (u == 0)) ≡ false
not-both zero c = grind (arith, nat_tests)
not-both (suc u) c = grind (arith, nat_tests)

none-left : place_of [] 0 ≡ 0
unfolding place_of
none-left = refl

next-place : (b : ℕ) (bs : List ℕ) (c : ℕ) → place_of (b ∷ bs) (units b + c) ≡ place_of bs c + 1
unfolding place_of
next-place b bs c =
    let no : ((units b + c == 0) && not (units b == 0)) ≡ false = not-both (units b) c in
    let less : (units b + c) - units b ≡ c = omega arith in
    rw (no, less) refl

one-more : (n : ℕ) → n + 1 ≡ suc n
one-more n = omega arith

pub leads-back : (line : List ℕ) (place : ℕ) → place ≤ length line → is_boundary line place ≡ true → place_of line (column_of line place) ≡ place
unfolding is_boundary total
leads-back [] zero le e = none-left
leads-back [] (suc place) le e = absurd (omega (arith, le))
leads-back (b ∷ line) zero le e = first-place b line e
leads-back (b ∷ line) (suc place) le e = next-place b line (total (take place line)) ∙ ap (λ n. n + 1) (leads-back line place (omega (arith, le)) e) ∙ one-more place

pub ruleset laws = (columns-ascend, leads-back)

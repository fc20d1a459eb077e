-- Comparisons of numbers, and what their answers tell.
use Rattle.std.proofs.Common.{◌≡◌, ◌≢◌, ℕ, ◌<◌, ◌≤◌, Bool, true, false, arith, refl}
use Rattle.std.specs.Prelude.{nat_le, nat_lt, ◌==◌, ◌&&◌}
use Rattle.std.proofs.lemmas.Bool.Decides.{nat_tests}

pub both-true : (b c : Bool) → (b && c) ≡ true → (b ≡ true) × (c ≡ true)
both-true true c h = (refl, h)
both-true false c h = absurd (cc)

pub same-number : (m n : ℕ) → (m == n) ≡ true → m ≡ n
same-number m n h = grind (arith, nat_tests)

pub other-number : (m n : ℕ) → (m == n) ≡ false → m ≢ n
other-number m n h = grind (arith, nat_tests)

pub other-test : (m n : ℕ) → m ≢ n → (m == n) ≡ false
other-test m n h = grind (arith, nat_tests)

pub not-less : (m n : ℕ) → nat_lt m n ≡ false → n ≤ m
not-less m n h = grind (arith, nat_tests)

pub is-less : (m n : ℕ) → nat_lt m n ≡ true → m < n
is-less m n h = grind (arith, nat_tests)

pub is-least : (m n : ℕ) → nat_le m n ≡ true → m ≤ n
is-least m n h = grind (arith, nat_tests)

pub both-tests : (m n k l : ℕ) → (m == n && k == l) ≡ true → (m ≡ n) × (k ≡ l)
both-tests m n k l h = let t = both-true (m == n) (k == l) h in (same-number m n t.0, same-number k l t.1)

pub all-tests : (m n k l i j : ℕ) → (m == n && k == l && i == j) ≡ true → (m ≡ n) × (k ≡ l) × (i ≡ j)
all-tests m n k l i j h =
    let t = both-true (m == n && k == l) (i == j) h in
    let u = both-tests m n k l t.0 in
    (u.0, u.1, same-number i j t.1)

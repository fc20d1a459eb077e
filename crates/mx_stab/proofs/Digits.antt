-- Numbers, and how many digits they take.
use Rattle.std.proofs.Common.{◌≡◌, ℕ, suc, ◌+◌, ◌*◌, ◌^◌, ◌<◌, ◌≤◌, ◌==◌, Bool, true, false, cond, List, [], ◌∷◌, ◌++◌, length, arith, refl, sym, ap, ◌∙◌, subst, inl, inr, rules}
use Rattle.mx_stab.proofs.Words.{add-mul, mul_assoc, mul_comm, mul-le-mul_right, pow-le-pow_right, pow-zero, cases_lt, eqb-true, eqb-false, pow_more, AreBytes, AreBelow, number, number_after, fewest_digits, nat_tests, common_steps}

one-more : (base x p : ℕ) → x * (p * base) ≡ x * base * p
one-more base x p = ap (λ n. x * n) (mul_comm p base) ∙ sym (mul_assoc x base p)

no-digits : (base x : ℕ) → x * base ^ 0 ≡ x
no-digits base x = ap (λ n. x * n) (pow-zero base) ∙ omega arith

power : (base : ℕ) (n : ℕ) → base ^ suc n ≡ base ^ n * base
power base n = ap (λ m. base ^ m) (omega arith) ∙ pow_more base n

-- digits after a number tell no less than that number with as many zeros
pub number-least : (base x : ℕ) (ds : List ℕ) → x * base ^ length ds ≤ number_after base x ds
number-least base x [] = omega (arith, no-digits base x)
number-least base x (d ∷ more) = search (rules, mul-le-mul_right, power, one-more, number-least base (x * base + d) more)

-- and less than the next number with as many zeros
pub number-most : (base x : ℕ) (ds : List ℕ) → AreBelow base ds → number_after base x ds < (x + 1) * base ^ length ds
number-most base x [] b = omega (arith, no-digits base (x + 1))
number-most base x (d ∷ more) b = grind (arith, nat_tests, add-mul, mul-le-mul_right, power, one-more, number-most base (x * base + d) more b.1)

pub number-power : (base : ℕ) (ds : List ℕ) → AreBelow base ds → number base ds < base ^ length ds
number-power base ds b = search (rules, number-most)

-- few bytes tell a small number
pub number-below : (bytes : List ℕ) (i j : ℕ) → AreBytes bytes → length bytes ≤ i → 256 ^ i ≤ 2 ^ j → number 256 bytes < 2 ^ j
number-below bytes i j b l p = search (rules, pow-le-pow_right, number-power)

-- the zeros in front tell nothing
pub number-zero : (base e : ℕ) (more : List ℕ) → number base (e ∷ more) ≡ number base (0 ∷ e ∷ more)
number-zero base e more = ap (λ x. number_after base x more) (grind (arith))

-- a number that n digits tell is written in no more than n
pub fewest-least : (base : ℕ) (ds : List ℕ) (n : ℕ) → 1 ≤ base → 1 ≤ n → number base ds < base ^ n → length (fewest_digits ds) ≤ n
fewest-least base (d ∷ e ∷ more) n p l h = one (d == 0) (eqb-true d 0) (eqb-false d 0) (fewest-least base (e ∷ more) n p l)
  where
    short : 1 ≤ d → length (d ∷ e ∷ more) ≤ n
    short some = elim (cases_lt (length (e ∷ more)) n) [
      | inl less ↦ omega (arith, less)
      | inr most ↦
          let power : base ^ n ≤ base ^ length (e ∷ more) = pow-le-pow_right p most in
          let least = number-least base (0 * base + d) (e ∷ more) in
          let one-times : 1 * base ^ length (e ∷ more) ≤ (0 * base + d) * base ^ length (e ∷ more) = mul-le-mul_right (base ^ length (e ∷ more)) (omega arith) in
          absurd (omega (arith, power, least, one-times, h))
    ]

    one : (b : Bool) → (b ≡ true → d ≡ 0) → (b ≡ false → d ≡ 0 → ⊥) → (number base (e ∷ more) < base ^ n → length (fewest_digits (e ∷ more)) ≤ n) → length (cond b (fewest_digits (e ∷ more)) (d ∷ e ∷ more)) ≤ n
    one true is other rest = rest (subst (λ x. x < base ^ n) (sym (number-zero base e more ∙ ap (λ x. number base (x ∷ e ∷ more)) (sym (is refl)))) h)
    one false is other rest =
        let some = other refl in
        short (omega (arith, some))
fewest-least base ds n p l h = omega arith

-- how many digits are left does not hang on the last one
pub fewest-last : (ds : List ℕ) (a b : ℕ) → length (fewest_digits (ds ++ a ∷ [])) ≡ length (fewest_digits (ds ++ b ∷ []))
fewest-last [] a b = refl
fewest-last (d ∷ []) a b = grind arith
fewest-last (d ∷ e ∷ more) a b = grind (arith, common_steps, nat_tests, fewest-last (e ∷ more) a b)

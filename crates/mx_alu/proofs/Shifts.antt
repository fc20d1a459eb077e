-- Shifts by 64 and more, and signed shifts.
use Rattle.std.proofs.Common.{◌≡◌, ◌≢◌, ℕ, ◌+◌, ◌-◌, ◌*◌, ◌/◌, ◌%◌, ◌^◌, ◌<◌, ◌≤◌, zero, suc, min, true, false, refl, sym, ◌∙◌, ap, arith, None, Some, ltb, ⊎_elim}
use Rattle.std.specs.Prelude.{ℤ, pos, negsuc, neg_ℤ, ◌*ℤ◌}
use Rattle.std.proofs.lemmas.Bool.{cases_lt}
use lib.Signed.{shr_z}
use mir.Val.{of_z}
use mir.Syntax.{w64}
use Rattle.mx_alu.proofs.Words.{pow-add, shr_le, mul-le, mul_assoc, lt_of_le_of_lt, div-eq_of_lt, pow-le-pow_right, nat_tests, octa, is_signed, floor_by}
use Rattle.mx_alu.specs.declared.answer.Event.TheVariants.{Overflow}
use Rattle.mx_alu.specs.Answers.{checked_answer}

-- a power that 2^64 divides
split : (z : ℕ) → 64 ≤ z → 2 ^ z ≡ 2 ^ (z - 64) * 2 ^ 64
split z h = let e : z ≡ (z - 64) + 64 = omega arith in ap (λ n. 2 ^ n) e ∙ pow-add 2 (z - 64) 64

times-split : (y z : ℕ) → 64 ≤ z → y * 2 ^ z ≡ y * 2 ^ (z - 64) * 2 ^ 64
times-split y z h = ap (λ p. y * p) (split z h) ∙ sym (mul_assoc y (2 ^ (z - 64)) (2 ^ 64))

pub high-left : (y z : ℕ) → 64 ≤ z → y * 2 ^ z % 2 ^ 64 ≡ 0
high-left y z h = ap (λ n. n % 2 ^ 64) (times-split y z h) ∙ omega arith

pub high-right : (y z : ℕ) → 64 ≤ z → y < 2 ^ 64 → y / 2 ^ z ≡ 0
high-right y z h l =
    let up : 2 ^ 64 ≤ 2 ^ z = pow-le-pow_right {n = 2} (omega arith) {i = 64} {j = z} h in
    div-eq_of_lt (omega (arith, up, l))

pub ruleset high = (high-left, high-right)

-- a signed octa is shifted by 63 where it is shifted by more
by-63 : (a z : ℕ) → a < 2 ^ 63 → a / 2 ^ min z 63 ≡ a / 2 ^ z
by-63 a z l = ⊎_elim (λ h. ap (λ k. a / 2 ^ k) (omega arith)) (λ h. all h) (cases_lt z 64)
  where
    all : 64 ≤ z → a / 2 ^ min z 63 ≡ a / 2 ^ z
    all h =
        let m : min z 63 ≡ 63 = omega arith in
        let none : a / 2 ^ 63 ≡ 0 = div-eq_of_lt l in
        ap (λ k. a / 2 ^ k) m ∙ none ∙ sym (high-right a z h (omega arith))

small : (a z : ℕ) → a < 2 ^ 63 → a / 2 ^ z < 2 ^ 63
small a z l = lt_of_le_of_lt (shr_le a z) l

pub right-signed : (v : ℤ) (z : ℕ) → is_signed v ≡ true → of_z w64 (shr_z v (2 ^ min z 63)) ≡ octa (floor_by v (2 ^ z))
right-signed (pos a) z f =
    let l : a < 2 ^ 63 = grind (arith, nat_tests) in
    omega (arith, by-63 a z l, small a z l)
right-signed (negsuc a) z f =
    let l : a < 2 ^ 63 = grind (arith, nat_tests) in
    omega (arith, by-63 a z l, small a z l)

-- a number other than 0 passes the octas where it is shifted by 64 and more
big : (k z : ℕ) → 0 < k → 64 ≤ z → 2 ^ 64 ≤ k * 2 ^ z
big k z p h =
    let up : 2 ^ 64 ≤ 2 ^ z = pow-le-pow_right {n = 2} (omega arith) {i = 64} {j = z} h in
    mul-le 1 (2 ^ 64) k (2 ^ z) p up

left-of : (n : ℕ) → 2 ^ 64 ≤ n → n % 2 ^ 64 ≡ 0 → checked_answer (pos n) ≡ record { x = 0; h = None; r = None; event = Some Overflow }
left-of n l z =
    let t : ltb n (2 ^ 63) ≡ false = grind (arith, nat_tests) in
    rw (z, t) refl

left-of-negative : (n : ℕ) → 2 ^ 64 ≤ n → n % 2 ^ 64 ≡ 0 → checked_answer (neg_ℤ (pos n)) ≡ record { x = 0; h = None; r = None; event = Some Overflow }
left-of-negative zero l z = absurd (omega arith)
left-of-negative (suc n) l z =
    let r : 2 ^ 64 - 1 - n % 2 ^ 64 ≡ 0 = omega arith in
    let t : ltb n (2 ^ 63) ≡ false = grind (arith, nat_tests) in
    rw (r, t) refl

pub shifted-out : (v : ℤ) (z : ℕ) → 64 ≤ z → v ≢ pos 0 → checked_answer (v *ℤ pos (2 ^ z)) ≡ record { x = 0; h = None; r = None; event = Some Overflow }
shifted-out (pos zero) z h ne = absurd (ne refl)
shifted-out (pos (suc a)) z h ne = left-of (suc a * 2 ^ z) (big (suc a) z (omega arith) h) (high-left (suc a) z h)
shifted-out (negsuc a) z h ne = left-of-negative (suc a * 2 ^ z) (big (suc a) z (omega arith) h) (high-left (suc a) z h)

pub ruleset signed_right = (right-signed)

pub ruleset signed_left = (shifted-out)

-- Numbers from their digits.
use Rattle.std.proofs.Common.{◌≡◌, ◌≢◌, ◌==◌, ℕ, ◌+◌, ◌-◌, ◌*◌, ◌^◌, ◌<◌, ◌≤◌, Bool, true, false, cond, List, [], ◌∷◌, Option, Some, arith, refl, sym, ap, ◌∙◌, min, nat_lt, nat_le, rules}
use Rattle.mx_stab.proofs.Words.{pow-le-pow_right, eqb-true, lt-leb, lt-ltb, serial_after, value_size, cap, serial_cap, nat_tests, common_steps}

-- fewer digits tell less
pub digits-below : (x i j : ℕ) → i ≤ j → x < 256 ^ i → x < 256 ^ j
digits-below x i j l h = search (rules, pow-le-pow_right)

digit-more : (x y i : ℕ) → y < x * 256 + 256 → x < 256 ^ i → y < 256 ^ (i + 1)
digit-more x y i l h = grind (arith, common_steps, nat_tests)

-- a digit more after a number that does not matter from 2^32 on
cap-more : (x b : ℕ) → min (min x (2 ^ 32) * 128 + b) (2 ^ 32) ≡ min (x * 128 + b) (2 ^ 32)
cap-more x b = omega arith

cap-digit : (x y b : ℕ) → cap x ≡ cap y → cap (x * 128 + b) ≡ cap (y * 128 + b)
cap-digit x y b h = sym (cap-more x b) ∙ ap (λ z. min (z * 128 + b) (2 ^ 32)) h ∙ cap-more y b

serial-step : (t : Bool) (x y b : ℕ) (more : List ℕ) → cap x ≡ cap y → serial_cap (serial_after (x * 128 + b) more) ≡ serial_cap (serial_after (y * 128 + b) more) →
    serial_cap (cond t (serial_after (x * 128 + b) more) (Some (x * 128 + (b - 128), more))) ≡ serial_cap (cond t (serial_after (y * 128 + b) more) (Some (y * 128 + (b - 128), more)))
serial-step t x y b more h1 h2 = grind arith

pub serial-cap : (x y : ℕ) (rest : List ℕ) → cap x ≡ cap y → serial_cap (serial_after x rest) ≡ serial_cap (serial_after y rest)
serial-cap x y [] h = refl
serial-cap x y (b ∷ more) h = serial-step (nat_lt b 128) x y b more h (serial-cap (x * 128 + b) (y * 128 + b) more (cap-digit x y b h))

pub serial-more : (x y b : ℕ) (rest : List ℕ) (all : Option (ℕ × List ℕ)) → y ≡ min (x * 128 + b) (2 ^ 32) → b < 128 → serial_cap (serial_after x (b ∷ rest)) ≡ all →
    serial_cap (serial_after y rest) ≡ all
serial-more x y b rest all e l h = search (rules, serial-cap, lt-ltb)

-- the digit that was read makes the number larger by one digit
pub digit-taken : (x y whole left next : ℕ) → y < x * 256 + 256 → left ≤ whole → next + 1 ≡ left → x < 256 ^ (whole - left) → y < 256 ^ (whole - next)
digit-taken x y whole left next l w n h = grind (arith, nat_tests, digit-more x y (whole - left) l h)

-- what is told by few digits fits
pub digits-fit : (x whole left : ℕ) → whole ≤ 8 → 1 ≤ left → x < 256 ^ (whole - left) → x < 2 ^ 56
digits-fit x whole left w l h = digits-below x (whole - left) 7 (omega arith) h

pub digits-short : (x n : ℕ) → n ≤ 6 → x < 256 ^ n → x < 2 ^ 48
digits-short x n l h = digits-below x n 6 l h

pub value-fits : (x kind n : ℕ) → kind < 16 → kind ≢ 15 → 8 < kind → n ≡ value_size kind → x < 256 ^ n → 2 ^ 61 + x < 2 ^ 64
value-fits x kind n l other more e h =
    let size : value_size kind ≡ kind - 8 = one (kind == 15) (nat_le kind 8) (eqb-true kind 15) (lt-leb kind 8 more) in
    let small = digits-short x n (omega (arith, size, e)) h in
    omega (arith, small)
  where
    one : (a b : Bool) → (a ≡ true → kind ≡ 15) → b ≡ false → cond a 1 (cond b kind (kind - 8)) ≡ kind - 8
    one true b p q = absurd (other (p refl))
    one false true p q = absurd (cc)
    one false false p q = refl

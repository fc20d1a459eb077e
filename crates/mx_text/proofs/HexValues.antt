-- The value of hexadecimal digits.
use Rattle.std.proofs.Common.{◌≡◌, ℕ, zero, suc, ◌+◌, ◌*◌, ◌/◌, ◌%◌, ◌^◌, ◌<◌, sym, ap, ◌∙◌, arith, zero-add}
use Rattle.mx_text.proofs.Words.{AllDigits, IsNumeral, digits_value, digits_value_after, digit_value, mod-pow-add, nat_tests, pow-succ', mod-lt, mod-eq_of_lt, add-mul, mul_assoc, hex_digit, hex_digits}
use Rattle.mx_text.proofs.Digits.{sixteen}

digit : (d : ℕ) → d < 16 → digit_value (hex_digit d) ≡ d
digit d lt = grind (arith, nat_tests)

below : (n : ℕ) → n % 16 < 16
below n = mod-lt n (omega arith)

-- the last digits, and the one before them
split : (k x : ℕ) → x % 16 ^ suc k ≡ (x / 16 ^ k % 16) * 16 ^ k + x % 16 ^ k
split k x =
    let places : 4 * suc k ≡ 4 + 4 * k = omega arith in
    ap (λ p. x % p) (sym (sixteen (suc k)) ∙ ap (λ e. 2 ^ e) places)
    ∙ mod-pow-add x 4 (4 * k)
    ∙ ap (λ p. (x / p % 16) * p + x % p) (sixteen k)

-- the digits after those of n
after : (k n x : ℕ) → digits_value_after 16 n (hex_digits k x) ≡ n * 16 ^ k + x % 16 ^ k
unfolding hex_digits
after zero n x = omega arith
after (suc k) n x =
    ap (λ v. digits_value_after 16 (n * 16 + v) (hex_digits k x)) (digit _ (below (x / 16 ^ k)))
    ∙ after k (n * 16 + x / 16 ^ k % 16) x
    ∙ (ap (λ m. m + (x % 16 ^ k)) (add-mul (n * 16) (x / 16 ^ k % 16) (16 ^ k) ∙ ap (λ m. m + (x / 16 ^ k % 16) * (16 ^ k)) (mul_assoc n 16 (16 ^ k))) ∙ omega arith)
    ∙ ap (λ p. n * p + ((x / 16 ^ k % 16) * 16 ^ k + x % 16 ^ k)) (sym (pow-succ' 16 k))
    ∙ ap (λ r. n * 16 ^ suc k + r) (sym (split k x))

pub all : (k x : ℕ) → AllDigits 16 (hex_digits k x)
unfolding hex_digits
all zero x = tt
all (suc k) x = (rw (digit _ (below (x / 16 ^ k))) (below (x / 16 ^ k)), all k x)

pub hex-numeral : (x : ℕ) → x < 2 ^ 64 → IsNumeral 16 (hex_digits 16 x)
unfolding hex_digits
hex-numeral x lt = (omega arith, all 16 x)

pub hex-value : (x : ℕ) → x < 2 ^ 64 → digits_value 16 (hex_digits 16 x) ≡ x
hex-value x lt = after 16 0 x ∙ zero-add (x % 2 ^ 64) ∙ mod-eq_of_lt lt

pub hex-counted : (k x : ℕ) → x < 16 ^ k → digits_value 16 (hex_digits k x) ≡ x
hex-counted k x lt =
    let none : 0 * 16 ^ k + x % 16 ^ k ≡ x % 16 ^ k = omega arith in
    after k 0 x ∙ none ∙ mod-eq_of_lt lt

pub ruleset values = (hex-numeral, hex-value)

-- Digits are written from the high end.
use Rattle.std.proofs.Common.{◌≡◌, ℕ, zero, suc, ◌+◌, ◌*◌, ◌/◌, ◌%◌, ◌^◌, ◌<◌, ◌≤◌, List, [], ◌∷◌, ◌++◌, map, get_or, slice_index_or, arith, sym, ap, refl, ◌∙◌}
use Rattle.std.proofs.lemmas.Fmt.{decimal_digit, decimal_step}
use Rattle.mx_ops.proofs.SecondCodes.{each}
use Rattle.mx_word.specs.Words.{octa_to_bytes}
use Rattle.mx_text.proofs.Words.{decimal, pow-add, pow-succ', range_with_len, hex_digits}
use Rattle.mx_text.specs.declared.numbers.TheConstants.{DECIMALS, PAIRS}

-- a digit has four bits
pub sixteen : (k : ℕ) → 2 ^ (4 * k) ≡ 16 ^ k
sixteen zero = refl
sixteen (suc k) =
    let more : 4 * suc k ≡ 4 + 4 * k = omega arith in
    ap (λ e. 2 ^ e) more ∙ pow-add 2 4 (4 * k) ∙ ap (λ p. 16 * p) (sixteen k) ∙ sym (pow-succ' 16 k)

-- ---- the table of pairs

abbrev pub pair_of : ℕ → List ℕ
pair_of b = get_or PAIRS b 0 / 256 ∷ get_or PAIRS b 0 % 256 ∷ []

all-pairs : map pair_of (range_with_len 0 256) ≡ map (hex_digits 2) (range_with_len 0 256)
unfolding hex_digits
all-pairs = refl

pub pair-known : (b : ℕ) → b < 256 → pair_of b ≡ hex_digits 2 b
pair-known = each [] _ _ all-pairs

-- ---- the digits of a tetra and of an octa

tetra-digits : (x : ℕ) (ab cd ef gh : List ℕ) → x < 2 ^ 32 → ab ≡ hex_digits 2 (x / 2 ^ 24) → cd ≡ hex_digits 2 (x / 2 ^ 16 % 256) →
    ef ≡ hex_digits 2 (x / 2 ^ 8 % 256) → gh ≡ hex_digits 2 (x % 256) →
    slice_index_or ab 0 0 ∷ slice_index_or ab 1 0 ∷ slice_index_or cd 0 0 ∷ slice_index_or cd 1 0 ∷ slice_index_or ef 0 0 ∷ slice_index_or ef 1 0
    ∷ slice_index_or gh 0 0 ∷ slice_index_or gh 1 0 ∷ [] ≡ hex_digits 8 x
unfolding hex_digits
tetra-digits x ab cd ef gh lt i j k l =
    let p7 : x / 2 ^ 24 / 16 ^ 1 % 16 ≡ x / 16 ^ 7 % 16 = omega arith in
    let p6 : x / 2 ^ 24 / 16 ^ 0 % 16 ≡ x / 16 ^ 6 % 16 = omega arith in
    let p5 : x / 2 ^ 16 % 256 / 16 ^ 1 % 16 ≡ x / 16 ^ 5 % 16 = omega arith in
    let p4 : x / 2 ^ 16 % 256 / 16 ^ 0 % 16 ≡ x / 16 ^ 4 % 16 = omega arith in
    let p3 : x / 2 ^ 8 % 256 / 16 ^ 1 % 16 ≡ x / 16 ^ 3 % 16 = omega arith in
    let p2 : x / 2 ^ 8 % 256 / 16 ^ 0 % 16 ≡ x / 16 ^ 2 % 16 = omega arith in
    let p1 : x % 256 / 16 ^ 1 % 16 ≡ x / 16 ^ 1 % 16 = omega arith in
    let p0 : x % 256 / 16 ^ 0 % 16 ≡ x / 16 ^ 0 % 16 = omega arith in
    rw (i, j, k, l, p7, p6, p5, p4, p3, p2, p1, p0) refl

pub eight-digits : (x n p q r s : ℕ) → x < 2 ^ 32 → p < 2 ^ 16 → q < 2 ^ 16 → r < 2 ^ 16 → s < 2 ^ 16 → p / 256 ∷ p % 256 ∷ [] ≡ hex_digits 2 (x / 2 ^ 24) →
    q / 256 ∷ q % 256 ∷ [] ≡ hex_digits 2 (x / 2 ^ 16 % 256) → r / 256 ∷ r % 256 ∷ [] ≡ hex_digits 2 (x / 2 ^ 8 % 256) →
    s / 256 ∷ s % 256 ∷ [] ≡ hex_digits 2 (x % 256) → n ≡ p * 2 ^ 48 + q * 2 ^ 32 + r * 2 ^ 16 + s → octa_to_bytes n ≡ hex_digits 8 x
eight-digits x n p q r s lt hp hq hr hs i j k l is =
    let b7 : n / 256 ^ 7 % 256 ≡ p / 256 = omega (arith, is, hp, hq, hr, hs) in
    let b6 : n / 256 ^ 6 % 256 ≡ p % 256 = omega (arith, is, hp, hq, hr, hs) in
    let b5 : n / 256 ^ 5 % 256 ≡ q / 256 = omega (arith, is, hp, hq, hr, hs) in
    let b4 : n / 256 ^ 4 % 256 ≡ q % 256 = omega (arith, is, hp, hq, hr, hs) in
    let b3 : n / 256 ^ 3 % 256 ≡ r / 256 = omega (arith, is, hp, hq, hr, hs) in
    let b2 : n / 256 ^ 2 % 256 ≡ r % 256 = omega (arith, is, hp, hq, hr, hs) in
    let b1 : n / 256 ^ 1 % 256 ≡ s / 256 = omega (arith, is, hp, hq, hr, hs) in
    let b0 : n % 256 ≡ s % 256 = omega (arith, is, hp, hq, hr, hs) in
    rw (b7, b6, b5, b4, b3, b2, b1, b0) (tetra-digits x _ _ _ _ lt i j k l)

high-digits : (x : ℕ) → hex_digits 16 x ≡ hex_digits 8 (x / 2 ^ 32) ++ hex_digits 8 (x % 2 ^ 32)
unfolding hex_digits
high-digits x =
    let h7 : x / 2 ^ 32 / 16 ^ 7 % 16 ≡ x / 16 ^ 15 % 16 = omega arith in
    let h6 : x / 2 ^ 32 / 16 ^ 6 % 16 ≡ x / 16 ^ 14 % 16 = omega arith in
    let h5 : x / 2 ^ 32 / 16 ^ 5 % 16 ≡ x / 16 ^ 13 % 16 = omega arith in
    let h4 : x / 2 ^ 32 / 16 ^ 4 % 16 ≡ x / 16 ^ 12 % 16 = omega arith in
    let h3 : x / 2 ^ 32 / 16 ^ 3 % 16 ≡ x / 16 ^ 11 % 16 = omega arith in
    let h2 : x / 2 ^ 32 / 16 ^ 2 % 16 ≡ x / 16 ^ 10 % 16 = omega arith in
    let h1 : x / 2 ^ 32 / 16 ^ 1 % 16 ≡ x / 16 ^ 9 % 16 = omega arith in
    let h0 : x / 2 ^ 32 / 16 ^ 0 % 16 ≡ x / 16 ^ 8 % 16 = omega arith in
    let l7 : x % 2 ^ 32 / 16 ^ 7 % 16 ≡ x / 16 ^ 7 % 16 = omega arith in
    let l6 : x % 2 ^ 32 / 16 ^ 6 % 16 ≡ x / 16 ^ 6 % 16 = omega arith in
    let l5 : x % 2 ^ 32 / 16 ^ 5 % 16 ≡ x / 16 ^ 5 % 16 = omega arith in
    let l4 : x % 2 ^ 32 / 16 ^ 4 % 16 ≡ x / 16 ^ 4 % 16 = omega arith in
    let l3 : x % 2 ^ 32 / 16 ^ 3 % 16 ≡ x / 16 ^ 3 % 16 = omega arith in
    let l2 : x % 2 ^ 32 / 16 ^ 2 % 16 ≡ x / 16 ^ 2 % 16 = omega arith in
    let l1 : x % 2 ^ 32 / 16 ^ 1 % 16 ≡ x / 16 ^ 1 % 16 = omega arith in
    let l0 : x % 2 ^ 32 / 16 ^ 0 % 16 ≡ x / 16 ^ 0 % 16 = omega arith in
    rw (h7, h6, h5, h4, h3, h2, h1, h0, l7, l6, l5, l4, l3, l2, l1, l0) refl

pub octa-digits : (x : ℕ) (high low : List ℕ) → high ≡ hex_digits 8 (x / 2 ^ 32) → low ≡ hex_digits 8 (x % 2 ^ 32) →
    slice_index_or high 0 0 ∷ slice_index_or high 1 0 ∷ slice_index_or high 2 0 ∷ slice_index_or high 3 0
    ∷ slice_index_or high 4 0 ∷ slice_index_or high 5 0 ∷ slice_index_or high 6 0 ∷ slice_index_or high 7 0
    ∷ slice_index_or low 0 0 ∷ slice_index_or low 1 0 ∷ slice_index_or low 2 0 ∷ slice_index_or low 3 0
    ∷ slice_index_or low 4 0 ∷ slice_index_or low 5 0 ∷ slice_index_or low 6 0 ∷ slice_index_or low 7 0 ∷ [] ≡ hex_digits 16 x
unfolding hex_digits
octa-digits x high low h l = rw (high-digits x, h, l) refl

-- ---- decimal digits

pub one-digit : (n a : ℕ) → n < 10 → a ≡ 48 + n % 10 → a ∷ [] ≡ decimal n
one-digit n a lt is = rw (decimal_digit n lt, is) (ap (λ d. (48 + d) ∷ []) (omega (arith, lt)))

pub two-digits : (n a b : ℕ) → 10 ≤ n → n < 100 → a ≡ 48 + n / 10 % 10 → b ≡ 48 + n % 10 → a ∷ b ∷ [] ≡ decimal n
two-digits n a b ge lt high low = rw (decimal_step n ge (omega (arith, lt)), ← one-digit (n / 10) a (omega (arith, lt)) high, low) refl

pub three-digits : (n a b c : ℕ) → 100 ≤ n → n < 1000 → a ≡ 48 + n / 100 % 10 → b ≡ 48 + n / 10 % 10 → c ≡ 48 + n % 10 → a ∷ b ∷ c ∷ [] ≡ decimal n
three-digits n a b c ge lt high middle low =
    let front : n / 100 % 10 ≡ n / 10 / 10 % 10 = omega arith in
    rw (decimal_step n (omega (arith, ge)) (omega (arith, lt)), ← two-digits (n / 10) a b (omega (arith, ge)) (omega (arith, lt)) (high ∙ ap (λ d. 48 + d) front) middle, low) refl

-- the table of decimals
abbrev pub decimals_of : ℕ → List ℕ
decimals_of k = get_or DECIMALS (3 * k) 0 ∷ get_or DECIMALS (3 * k + 1) 0 ∷ get_or DECIMALS (3 * k + 2) 0 ∷ []

abbrev pub three_of : ℕ → List ℕ
three_of k = (48 + k / 100 % 10) ∷ (48 + k / 10 % 10) ∷ (48 + k % 10) ∷ []

all-decimals : map decimals_of (range_with_len 0 256) ≡ map three_of (range_with_len 0 256)
all-decimals = refl

pub decimals-known : (k : ℕ) → k < 256 → decimals_of k ≡ three_of k
decimals-known = each [] _ _ all-decimals

pub ruleset counting = (one-digit, two-digits, three-digits, decimals-known)

-- ---- registers

pub one-register : (text ds : List ℕ) (k : ℕ) → k < 10 → ds ≡ three_of k → text ++ 36 ∷ slice_index_or ds 2 0 ∷ [] ≡ text ++ 36 ∷ decimal k
one-register text ds k lt is = rw is (ap (λ ds. text ++ 36 ∷ ds) (one-digit k _ lt refl))

pub two-register : (text ds : List ℕ) (k : ℕ) → 10 ≤ k → k < 100 → ds ≡ three_of k →
    text ++ 36 ∷ slice_index_or ds 1 0 ∷ slice_index_or ds 2 0 ∷ [] ≡ text ++ 36 ∷ decimal k
two-register text ds k ge lt is = rw is (ap (λ ds. text ++ 36 ∷ ds) (two-digits k _ _ ge lt refl refl))

pub three-register : (text ds : List ℕ) (k : ℕ) → 100 ≤ k → k < 256 → ds ≡ three_of k →
    text ++ 36 ∷ slice_index_or ds 0 0 ∷ slice_index_or ds 1 0 ∷ slice_index_or ds 2 0 ∷ [] ≡ text ++ 36 ∷ decimal k
three-register text ds k ge lt is = rw is (ap (λ ds. text ++ 36 ∷ ds) (three-digits k _ _ _ ge (omega (arith, lt)) refl refl refl))

pub one-next : (text ds : List ℕ) (k : ℕ) → k < 10 → ds ≡ three_of k → text ++ 44 ∷ 36 ∷ slice_index_or ds 2 0 ∷ [] ≡ text ++ 44 ∷ 36 ∷ decimal k
one-next text ds k lt is = rw is (ap (λ ds. text ++ 44 ∷ 36 ∷ ds) (one-digit k _ lt refl))

pub two-next : (text ds : List ℕ) (k : ℕ) → 10 ≤ k → k < 100 → ds ≡ three_of k →
    text ++ 44 ∷ 36 ∷ slice_index_or ds 1 0 ∷ slice_index_or ds 2 0 ∷ [] ≡ text ++ 44 ∷ 36 ∷ decimal k
two-next text ds k ge lt is = rw is (ap (λ ds. text ++ 44 ∷ 36 ∷ ds) (two-digits k _ _ ge lt refl refl))

pub three-next : (text ds : List ℕ) (k : ℕ) → 100 ≤ k → k < 256 → ds ≡ three_of k →
    text ++ 44 ∷ 36 ∷ slice_index_or ds 0 0 ∷ slice_index_or ds 1 0 ∷ slice_index_or ds 2 0 ∷ [] ≡ text ++ 44 ∷ 36 ∷ decimal k
three-next text ds k ge lt is = rw is (ap (λ ds. text ++ 44 ∷ 36 ∷ ds) (three-digits k _ _ _ ge (omega (arith, lt)) refl refl refl))

pub ruleset registers = (one-register, two-register, three-register, one-next, two-next, three-next)

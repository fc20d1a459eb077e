-- The digits that are shown are constants that are read as the same numbers.
use Rattle.std.proofs.Common.{◌≡◌, ℕ, ◌+◌, ◌*◌, ◌^◌, ◌<◌, true, List, [], ◌∷◌, fold, refl, ◌∙◌, arith, subst, rules}
use Rattle.mx_gen.proofs.ShownWords.{decimal, digit_value, list_all, AllDigits, digits_value_after, decimal_is_IsNumeral, is_digit, is_hexadecimal, Constant, hex_digits, hex_text, hex-numeral, hex-value}
use Rattle.mx_expr.specs.Bytes as expr
use Rattle.mx_expr.specs.Spelling.Constant.{decimal as decimal_digits, hexadecimal as hexadecimal_digits}

are-decimal : (ds : List ℕ) → AllDigits 10 ds → list_all is_digit ds ≡ true
are-decimal [] all = refl
are-decimal (d ∷ ds) all = search (rules, are-decimal ds all.1)

are-hexadecimal : (ds : List ℕ) → AllDigits 16 ds → list_all is_hexadecimal ds ≡ true
are-hexadecimal [] all = refl
are-hexadecimal (d ∷ ds) all = search (rules, are-hexadecimal ds all.1)

-- the value of digits after those of n
same-after : (radix n : ℕ) (ds : List ℕ) → radix < 17 → AllDigits radix ds → fold (λ v d. v * radix + expr.digit_value d) n ds ≡ digits_value_after radix n ds
same-after radix n [] le all = refl
same-after radix n (d ∷ ds) le all = search (rules, same-after radix (n * radix + digit_value d) ds le all.1)

-- a number in decimal digits
pub decimal-constant : (n : ℕ) → n < 2 ^ 64 → Constant (decimal n) n
decimal-constant n lt =
    let p = decimal_is_IsNumeral n lt in
    subst (Constant (decimal n)) (same-after 10 0 (decimal n) (omega arith) p.0.1 ∙ p.1)
    (decimal_digits (decimal n) p.0.0 (are-decimal (decimal n) p.0.1))

-- an octa as `#` and 16 digits
pub hexadecimal-constant : (n : ℕ) → n < 2 ^ 64 → Constant (hex_text n) n
hexadecimal-constant n lt =
    let p = hex-numeral n lt in
    subst (Constant (hex_text n)) (same-after 16 0 (hex_digits 16 n) (omega arith) p.1 ∙ hex-value n lt)
    (hexadecimal_digits (hex_digits 16 n) p.0 (are-hexadecimal (hex_digits 16 n) p.1))

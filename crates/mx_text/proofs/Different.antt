-- Different octas have different texts.
use Rattle.std.proofs.Common.{◌≡◌, ℕ, suc, ◌-◌, ◌<◌, ◌^◌, pos, negsuc, Bool, true, false, cond, nat_lt, List, ◌∷◌, sym, ap, refl, ◌∙◌, arith, drop}
use Rattle.mx_text.proofs.Words.{digits_value, nat_tests, decimal, signed_decimal, decimal_injective, decimal_is_IsNumeral, decimal_text, hex_text}
use Rattle.mx_text.proofs.HexValues.{hex-value}

pub hex-differ : (x y : ℕ) → x < 2 ^ 64 → y < 2 ^ 64 → hex_text x ≡ hex_text y → x ≡ y
hex-differ x y lx ly same = sym (hex-value x lx) ∙ ap (λ t. digits_value 16 (drop 1 t)) same ∙ hex-value y ly

-- a minus sign begins no unsigned number
no-minus : (n : ℕ) (ds : List ℕ) → n < 2 ^ 64 → decimal n ≡ 45 ∷ ds → true ≡ false
no-minus n ds lt is = absurd (omega (arith, (rw is at (decimal_is_IsNumeral n lt).0.1).0))

-- what a negative octa counts below zero is an octa
negated : (x : ℕ) → nat_lt x (2 ^ 63) ≡ false → suc (2 ^ 64 - 1 - x) < 2 ^ 64
negated x h = grind (arith, nat_tests)

by-signs : (x y : ℕ) (a b : Bool) → x < 2 ^ 64 → y < 2 ^ 64 → nat_lt x (2 ^ 63) ≡ a → nat_lt y (2 ^ 63) ≡ b →
    signed_decimal (cond a (pos x) (negsuc (2 ^ 64 - 1 - x))) ≡ signed_decimal (cond b (pos y) (negsuc (2 ^ 64 - 1 - y))) → x ≡ y
by-signs x y true true lx ly hx hy same = decimal_injective x y lx ly same
by-signs x y true false lx ly hx hy same = absurd (cc (no-minus x _ lx same))
by-signs x y false true lx ly hx hy same = absurd (cc (no-minus y _ ly (sym same)))
by-signs x y false false lx ly hx hy same =
    omega (arith, lx, ly, decimal_injective (suc (2 ^ 64 - 1 - x)) (suc (2 ^ 64 - 1 - y)) (negated x hx) (negated y hy) (ap (drop 1) same))

pub decimal-differ : (x y : ℕ) → x < 2 ^ 64 → y < 2 ^ 64 → decimal_text x ≡ decimal_text y → x ≡ y
decimal-differ x y lx ly same = by-signs x y (nat_lt x (2 ^ 63)) (nat_lt y (2 ^ 63)) lx ly refl refl same

pub ruleset different = (hex-differ, decimal-differ)

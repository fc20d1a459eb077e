-- The floor of a quotient, by the quotient whose remainder is not negative.
use Rattle.std.proofs.Common.{◌≡◌, ℕ, ◌+◌, suc, refl, sym, ◌∙◌, ap, arith, zero-add, add-one}
use Rattle.std.specs.Prelude.{ℤ, pos, negsuc, neg_ℤ, ◌-ℤ◌, ◌<ℤ◌, ◌≤ℤ◌}
use Rattle.mx_alu.proofs.Words.{int_div_euclid, ints, floor_by, floor_quotient}
use lib.IntN.{+ℤ_idl}

by-positive : (a : ℤ) (m : ℕ) → int_div_euclid a (pos m) ≡ floor_by a m
by-positive (pos a) m = refl
by-positive (negsuc a) m = refl

pub floor-negative : (a b : ℤ) → b <ℤ pos 0 → int_div_euclid (pos 0 -ℤ a) (pos 0 -ℤ b) ≡ floor_quotient a b
floor-negative a (pos b) h = absurd (omega (arith, ints))
floor-negative a (negsuc b) h =
    ap (λ v. int_div_euclid v (pos (0 + suc b))) (+ℤ_idl (neg_ℤ a))
    ∙ ap (λ m. int_div_euclid (neg_ℤ a) (pos m)) (zero-add (suc b))
    ∙ by-positive (neg_ℤ a) (suc b)
    ∙ ap (floor_by (neg_ℤ a)) (sym (add-one b))

pub floor-positive : (a : ℤ) (b : ℤ) → pos 0 ≤ℤ b → int_div_euclid a b ≡ floor_quotient a b
floor-positive a (pos b) h = by-positive a b
floor-positive a (negsuc b) h = absurd (omega (arith, ints))

pub ruleset floors = (floor-negative, floor-positive)

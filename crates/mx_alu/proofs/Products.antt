-- Products of signed octas in words of 128 bits, which hold them.
use Rattle.std.proofs.Common.{◌≡◌, ℕ, ◌*◌, ◌%◌, ◌^◌, ◌<◌, ◌≤◌, refl, ap, ◌∙◌, arith}
use Rattle.std.specs.Prelude.{ℤ, pos, negsuc, ◌-ℤ◌, ◌*ℤ◌, unsigned_abs}
use Rattle.mx_alu.proofs.Words.{ints, to_z-of_z, fits_signed_mul, unsigned_abs-mul, mul-le, pow-le-pow_right, nat_tests, signed_value}
use mir.Val.{SFits, of_z, to_z}
use mir.Syntax.{w128}

-- a number as a word of 128 bits holds it
abbrev held : ℤ → ℤ
held v = to_z w128 (of_z w128 v)

fits-small : (v : ℤ) → unsigned_abs v ≤ 2 ^ 63 → SFits w128 v
fits-small (pos n) h = record { sfits = omega arith }
fits-small (negsuc n) h = record { sfits = omega arith }

fits-difference : (a p : ℤ) → unsigned_abs a ≤ 2 ^ 63 → unsigned_abs p ≤ 2 ^ 126 → SFits w128 (a -ℤ p)
fits-difference a p h k = search (arith, ints)

product-held : (a b : ℤ) → unsigned_abs a ≤ 2 ^ 63 → unsigned_abs b ≤ 2 ^ 63 → held a *ℤ held b ≡ a *ℤ b
product-held a b h k = rw (to_z-of_z w128 a (fits-small a h), to_z-of_z w128 b (fits-small b k)) refl

product-fits : (a b : ℤ) → unsigned_abs a ≤ 2 ^ 63 → unsigned_abs b ≤ 2 ^ 63 → SFits w128 (a *ℤ b)
product-fits a b h k = fits_signed_mul w128 a b (2 ^ 63) (2 ^ 63) h k (omega arith)

product-small : (a b : ℤ) → unsigned_abs a ≤ 2 ^ 63 → unsigned_abs b ≤ 2 ^ 63 → unsigned_abs (a *ℤ b) ≤ 2 ^ 126
product-small a b h k = rw (unsigned_abs-mul a b) (mul-le (unsigned_abs a) (unsigned_abs b) (2 ^ 63) (2 ^ 63) h k)

-- a product of two signed octas
pub product-in : (a b : ℤ) → unsigned_abs a ≤ 2 ^ 63 → unsigned_abs b ≤ 2 ^ 63 → SFits w128 (held a *ℤ held b)
product-in a b h k = rw (product-held a b h k) (product-fits a b h k)

pub product-is : (a b : ℤ) → unsigned_abs a ≤ 2 ^ 63 → unsigned_abs b ≤ 2 ^ 63 → held (held a *ℤ held b) ≡ a *ℤ b
product-is a b h k = ap held (product-held a b h k) ∙ to_z-of_z w128 (a *ℤ b) (product-fits a b h k)

-- a signed octa less such a product
less-held : (a b q : ℤ) → unsigned_abs a ≤ 2 ^ 63 → unsigned_abs b ≤ 2 ^ 63 → unsigned_abs q ≤ 2 ^ 63 →
    held a -ℤ held (held b *ℤ held q) ≡ a -ℤ b *ℤ q
less-held a b q h k l = rw (product-is b q k l, to_z-of_z w128 a (fits-small a h)) refl

less-fits : (a b q : ℤ) → unsigned_abs a ≤ 2 ^ 63 → unsigned_abs b ≤ 2 ^ 63 → unsigned_abs q ≤ 2 ^ 63 → SFits w128 (a -ℤ b *ℤ q)
less-fits a b q h k l = fits-difference a (b *ℤ q) h (product-small b q k l)

pub less-in : (a b q : ℤ) → unsigned_abs a ≤ 2 ^ 63 → unsigned_abs b ≤ 2 ^ 63 → unsigned_abs q ≤ 2 ^ 63 →
    SFits w128 (held a -ℤ held (held b *ℤ held q))
less-in a b q h k l = rw (less-held a b q h k l) (less-fits a b q h k l)

pub less-is : (a b q : ℤ) → unsigned_abs a ≤ 2 ^ 63 → unsigned_abs b ≤ 2 ^ 63 → unsigned_abs q ≤ 2 ^ 63 →
    held (held a -ℤ held (held b *ℤ held q)) ≡ a -ℤ b *ℤ q
less-is a b q h k l = ap held (less-held a b q h k l) ∙ to_z-of_z w128 (a -ℤ b *ℤ q) (less-fits a b q h k l)

-- how far from 0 a signed octa lies at most, and a power that is an octa
octa-small : (x : ℕ) → x < 2 ^ 64 → unsigned_abs (signed_value x) ≤ 2 ^ 63
octa-small x l = grind (arith, nat_tests)

pub value-small : (a : ℤ) (x : ℕ) → x < 2 ^ 64 → a ≡ signed_value x → unsigned_abs a ≤ 2 ^ 63
value-small a x l e = rw e (octa-small x l)

power-most : (z : ℕ) → z < 64 → 2 ^ z ≤ 2 ^ 63
power-most z l = pow-le-pow_right {n = 2} (omega arith) {i = z} {j = 63} (omega arith)

pub power-is : (p : ℤ) (z : ℕ) → z < 64 → p ≡ pos (1 * 2 ^ z % 2 ^ 64) → p ≡ pos (2 ^ z)
power-is p z l e = let most : 2 ^ z ≤ 2 ^ 63 = power-most z l in e ∙ ap (λ n. pos n) (omega (arith, most))

pub power-small : (p : ℤ) (z : ℕ) → z < 64 → p ≡ pos (1 * 2 ^ z % 2 ^ 64) → unsigned_abs p ≤ 2 ^ 63
power-small p z l e = rw (power-is p z l e) (power-most z l)

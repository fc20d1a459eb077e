-- A part of an octa that is put in place of another, in the octa or in the tetra that has it.
use Rattle.std.proofs.Common.{◌≡◌, ◌≢◌, ◌<◌, ◌≤◌, ◌/◌, ◌%◌, ◌*◌, ◌+◌, ◌-◌, ◌^◌, ℕ, arith, sym, ap, subst, refl, ◌∙◌, ⊎_elim}
use Rattle.std.proofs.lemmas.Bool.Decides.{nat_tests}
use Rattle.std.proofs.lemmas.Bool.{cases_lt}
use Rattle.mx_mem.specs.Memory.{tetra_of}
use Rattle.mx_mem.specs.Parts.{size_of, bits_below, part_of, with_part}
use Rattle.mx_mem.specs.declared.part.Part.{Part}
use Rattle.mx_mem.specs.declared.part.Part.TheVariants.{Byte, Wyde, Tetra, Octa}
use Rattle.mx_mem.proofs.Fields.{replaced-fits}

-- how many bits of an octa are above a part
bits-above : Part → ℕ → ℕ
bits-above part a = 64 - bits_below part a - 8 * size_of part

whole-octa : (part : Part) (a : ℕ) → 64 ≡ bits_below part a + (8 * size_of part + bits-above part a)
unfolding bits-above
whole-octa Byte a = omega arith
whole-octa Wyde a = omega arith
whole-octa Tetra a = omega arith
whole-octa Octa a = omega arith

pub part-fits : (part : Part) (octa a x : ℕ) → octa < 2 ^ 64 → with_part part octa a x < 2 ^ 64
part-fits part octa a x l =
    subst (λ t. with_part part octa a x < 2 ^ t) (sym (whole-octa part a)) (replaced-fits octa (bits_below part a) (8 * size_of part) (bits-above part a) x (subst (λ t. octa < 2 ^ t) (whole-octa part a) l))

-- the tetra in each half of an octa
pub high-half : (o a : ℕ) → a % 8 < 4 → tetra_of o a ≡ o / 2 ^ 32
high-half o a m = grind (arith, nat_tests)

pub low-half : (o a : ℕ) → 4 ≤ a % 8 → tetra_of o a ≡ o % 2 ^ 32
low-half o a m = grind (arith, nat_tests)

-- by the place in a half
pub four : (r : ℕ) (P : Type 0) → r < 4 → (r ≡ 0 → P) → (r ≡ 1 → P) → (r ≡ 2 → P) → (r ≡ 3 → P) → P
four r P l a b c d =
    ⊎_elim (λ u. ⊎_elim (λ v. a (omega arith)) (λ v. b (omega arith)) (cases_lt r 1))
    (λ u. ⊎_elim (λ v. c (omega arith)) (λ v. d (omega arith)) (cases_lt r 3)) (cases_lt r 2)

-- a part is put in place of another in the octa, or in the tetra t that has it
abbrev IsSame : Part → ℕ → ℕ → ℕ → ℕ → Type 0
IsSame part o a x t = with_part Tetra o a (with_part part t (4 + a % 4) x % 2 ^ 32) ≡ with_part part o a x

byte-high : (o a x t : ℕ) → t ≡ o / 2 ^ 32 → a % 8 < 4 → IsSame Byte o a x t
byte-high o a x t f m =
    let z : a % 8 / 4 ≡ 0 = omega arith in
    four (a % 8) (IsSame Byte o a x t) m
    (λ e. let w : (4 + a % 4) % 8 ≡ 4 = omega arith in rw (z, e, w) (omega (arith, f)))
    (λ e. let w : (4 + a % 4) % 8 ≡ 5 = omega arith in rw (z, e, w) (omega (arith, f)))
    (λ e. let w : (4 + a % 4) % 8 ≡ 6 = omega arith in rw (z, e, w) (omega (arith, f)))
    (λ e. let w : (4 + a % 4) % 8 ≡ 7 = omega arith in rw (z, e, w) (omega (arith, f)))

byte-low : (o a x t : ℕ) → t ≡ o % 2 ^ 32 → 4 ≤ a % 8 → IsSame Byte o a x t
byte-low o a x t f m =
    let z : a % 8 / 4 ≡ 1 = omega arith in
    let k : (4 + a % 4) % 8 ≡ a % 8 = omega arith in
    four (a % 4) (IsSame Byte o a x t) (omega arith)
    (λ e. let w : a % 8 ≡ 4 = omega arith in rw (z, k, w) (omega (arith, f)))
    (λ e. let w : a % 8 ≡ 5 = omega arith in rw (z, k, w) (omega (arith, f)))
    (λ e. let w : a % 8 ≡ 6 = omega arith in rw (z, k, w) (omega (arith, f)))
    (λ e. let w : a % 8 ≡ 7 = omega arith in rw (z, k, w) (omega (arith, f)))

wyde-high : (o a x t : ℕ) → t ≡ o / 2 ^ 32 → a % 8 < 4 → IsSame Wyde o a x t
wyde-high o a x t f m =
    let z : a % 8 / 4 ≡ 0 = omega arith in
    ⊎_elim
    (λ (l : a % 8 < 2). let v : a % 8 / 2 ≡ 0 = omega arith in let w : (4 + a % 4) % 8 / 2 ≡ 2 = omega arith in rw (z, v, w) (omega (arith, f)))
    (λ (l : 2 ≤ a % 8). let v : a % 8 / 2 ≡ 1 = omega arith in let w : (4 + a % 4) % 8 / 2 ≡ 3 = omega arith in rw (z, v, w) (omega (arith, f)))
    (cases_lt (a % 8) 2)

wyde-low : (o a x t : ℕ) → t ≡ o % 2 ^ 32 → 4 ≤ a % 8 → IsSame Wyde o a x t
wyde-low o a x t f m =
    let z : a % 8 / 4 ≡ 1 = omega arith in
    let k : (4 + a % 4) % 8 ≡ a % 8 = omega arith in
    ⊎_elim
    (λ (l : a % 8 < 6). let w : a % 8 / 2 ≡ 2 = omega arith in rw (z, k, w) (omega (arith, f)))
    (λ (l : 6 ≤ a % 8). let w : a % 8 / 2 ≡ 3 = omega arith in rw (z, k, w) (omega (arith, f)))
    (cases_lt (a % 8) 6)

tetra-same : (o a x t : ℕ) → IsSame Tetra o a x t
tetra-same o a x t =
    let w : (4 + a % 4) % 8 / 4 ≡ 1 = omega arith in
    let v : with_part Tetra t (4 + a % 4) x % 2 ^ 32 ≡ x % 2 ^ 32 = rw w (omega arith) in
    let same : x % 2 ^ 32 % 2 ^ 32 ≡ x % 2 ^ 32 = omega arith in
    rw v (ap (λ n. o - part_of Tetra o a * 2 ^ bits_below Tetra a + n * 2 ^ bits_below Tetra a) same)

pub same-part : (part : Part) (o a x t : ℕ) → part ≢ Octa → t ≡ tetra_of o a → IsSame part o a x t
same-part Byte o a x t ne e =
    ⊎_elim (λ m. byte-high o a x t (e ∙ high-half o a m) m) (λ m. byte-low o a x t (e ∙ low-half o a m) m) (cases_lt (a % 8) 4)
same-part Wyde o a x t ne e =
    ⊎_elim (λ m. wyde-high o a x t (e ∙ high-half o a m) m) (λ m. wyde-low o a x t (e ∙ low-half o a m) m) (cases_lt (a % 8) 4)
same-part Tetra o a x t ne e = tetra-same o a x t
same-part Octa o a x t ne e = absurd (ne refl)

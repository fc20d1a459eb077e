-- Parts that are loaded of the tetra that has them.
use Rattle.std.proofs.Common.{◌≡◌, ◌≢◌, ◌<◌, ◌≤◌, ◌+◌, ◌-◌, ◌*◌, ◌/◌, ◌%◌, ◌^◌, ℕ, ap, refl, arith, ⊎_elim, ◌∙◌}
use Rattle.std.proofs.lemmas.Bool.{cases_lt}
use Rattle.mx_mem.specs.Memory.{tetra_of}
use Rattle.mx_mem.specs.Parts.{part_of}
use Rattle.mx_mem.specs.declared.part.Part.{Part}
use Rattle.mx_mem.specs.declared.part.Part.TheVariants.{Byte, Wyde, Tetra, Octa}
use Rattle.mx_mem.proofs.PartFields.{four, high-half, low-half}
use Rattle.mx_code.specs.LoadsAndStores.{sign_extended, loaded_part, loaded_value}
use Rattle.mx_code.specs.declared.operation.Loading.{Loading}
use Rattle.mx_code.specs.declared.operation.Loading.TheVariants.{Signed, Unsigned, HighTetra}

-- of the octa, or of the tetra t that has the part
abbrev IsSame : Part → ℕ → ℕ → ℕ → Type 0
IsSame part x a t = part_of part t (4 + a % 4) ≡ part_of part x a

byte-high : (x a t : ℕ) → t ≡ x / 2 ^ 32 → a % 8 < 4 → IsSame Byte x a t
byte-high x a t f m =
    four (a % 8) (IsSame Byte x a t) m
    (λ e. let w : (4 + a % 4) % 8 ≡ 4 = omega arith in rw (e, w) (omega (arith, f)))
    (λ e. let w : (4 + a % 4) % 8 ≡ 5 = omega arith in rw (e, w) (omega (arith, f)))
    (λ e. let w : (4 + a % 4) % 8 ≡ 6 = omega arith in rw (e, w) (omega (arith, f)))
    (λ e. let w : (4 + a % 4) % 8 ≡ 7 = omega arith in rw (e, w) (omega (arith, f)))

byte-low : (x a t : ℕ) → t ≡ x % 2 ^ 32 → 4 ≤ a % 8 → IsSame Byte x a t
byte-low x a t f m =
    let k : (4 + a % 4) % 8 ≡ a % 8 = omega arith in
    four (a % 4) (IsSame Byte x a t) (omega arith)
    (λ e. let w : a % 8 ≡ 4 = omega arith in rw (k, w) (omega (arith, f)))
    (λ e. let w : a % 8 ≡ 5 = omega arith in rw (k, w) (omega (arith, f)))
    (λ e. let w : a % 8 ≡ 6 = omega arith in rw (k, w) (omega (arith, f)))
    (λ e. let w : a % 8 ≡ 7 = omega arith in rw (k, w) (omega (arith, f)))

wyde-high : (x a t : ℕ) → t ≡ x / 2 ^ 32 → a % 8 < 4 → IsSame Wyde x a t
wyde-high x a t f m =
    ⊎_elim
    (λ (l : a % 8 < 2). let v : a % 8 / 2 ≡ 0 = omega arith in let w : (4 + a % 4) % 8 / 2 ≡ 2 = omega arith in rw (v, w) (omega (arith, f)))
    (λ (l : 2 ≤ a % 8). let v : a % 8 / 2 ≡ 1 = omega arith in let w : (4 + a % 4) % 8 / 2 ≡ 3 = omega arith in rw (v, w) (omega (arith, f)))
    (cases_lt (a % 8) 2)

wyde-low : (x a t : ℕ) → t ≡ x % 2 ^ 32 → 4 ≤ a % 8 → IsSame Wyde x a t
wyde-low x a t f m =
    let k : (4 + a % 4) % 8 ≡ a % 8 = omega arith in
    ⊎_elim
    (λ (l : a % 8 < 6). let w : a % 8 / 2 ≡ 2 = omega arith in rw (k, w) (omega (arith, f)))
    (λ (l : 6 ≤ a % 8). let w : a % 8 / 2 ≡ 3 = omega arith in rw (k, w) (omega (arith, f)))
    (cases_lt (a % 8) 6)

tetra-high : (x a t : ℕ) → t ≡ x / 2 ^ 32 → a % 8 < 4 → IsSame Tetra x a t
tetra-high x a t f m =
    let v : a % 8 / 4 ≡ 0 = omega arith in
    let w : (4 + a % 4) % 8 / 4 ≡ 1 = omega arith in
    rw (v, w) (omega (arith, f))

tetra-low : (x a t : ℕ) → t ≡ x % 2 ^ 32 → 4 ≤ a % 8 → IsSame Tetra x a t
tetra-low x a t f m =
    let v : a % 8 / 4 ≡ 1 = omega arith in
    let w : (4 + a % 4) % 8 / 4 ≡ 1 = omega arith in
    rw (v, w) (omega (arith, f))

same-part : (part : Part) (x a t : ℕ) → part ≢ Octa → t ≡ tetra_of x a → IsSame part x a t
same-part Byte x a t ne e =
    ⊎_elim (λ m. byte-high x a t (e ∙ high-half x a m) m) (λ m. byte-low x a t (e ∙ low-half x a m) m) (cases_lt (a % 8) 4)
same-part Wyde x a t ne e =
    ⊎_elim (λ m. wyde-high x a t (e ∙ high-half x a m) m) (λ m. wyde-low x a t (e ∙ low-half x a m) m) (cases_lt (a % 8) 4)
same-part Tetra x a t ne e =
    ⊎_elim (λ m. tetra-high x a t (e ∙ high-half x a m) m) (λ m. tetra-low x a t (e ∙ low-half x a m) m) (cases_lt (a % 8) 4)
same-part Octa x a t ne e = absurd (ne refl)

pub same-value : (how : Loading) (x a t : ℕ) → loaded_part how ≢ Octa → t ≡ tetra_of x a → loaded_value how t (4 + a % 4) ≡ loaded_value how x a
same-value (Signed part) x a t ne e = ap (sign_extended part) (same-part part x a t ne e)
same-value (Unsigned part) x a t ne e = same-part part x a t ne e
same-value HighTetra x a t ne e = ap (λ n. n * 2 ^ 32) (same-part Tetra x a t ne e)

pub ruleset tetras = same-value

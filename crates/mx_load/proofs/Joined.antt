-- A tetra is joined to memory on a page that is there.
use Rattle.std.proofs.Common.{◌≡◌, ◌<◌, ◌^◌, ℕ, ap, ◌∙◌, arith, bit_xor}
use Rattle.std.proofs.Math.Nat.{mod-eq_of_lt}
use Rattle.mx_mem.specs.Memory.{Stored, octa_at, stored_at, with_tetra, in_half}
use Rattle.mx_mem.specs.Parts.{bits_below, with_part}
use Rattle.mx_mem.specs.declared.part.Part.TheVariants.{Octa}
use Rattle.mx_mem.proofs.Joins.{stored-joined}

-- a whole octa in place of another
whole : (x y a : ℕ) → x < 2 ^ 64 → y < 2 ^ 64 → with_part Octa x a y ≡ y
whole x y a l m =
    let none : bits_below Octa a ≡ 0 = omega arith in
    rw (none, mod-eq_of_lt m) (omega (arith, l))

pub stored-whole : (m n : Stored) (a x : ℕ) → octa_at m a < 2 ^ 64 → x < 2 ^ 64 →
    octa_at n ≡ stored_at (octa_at m) a (with_part Octa (octa_at m a) a x) → octa_at n ≡ stored_at (octa_at m) a x
stored-whole m n a x l b e = e ∙ ap (stored_at (octa_at m) a) (whole (octa_at m a) x a l b)

pub ruleset placed = (stored-whole)

pub found-joined : (m n : Stored) (a t x h : ℕ) → x ≡ octa_at m a → h ≡ in_half a t →
    octa_at n ≡ stored_at (octa_at m) a (bit_xor x h) → octa_at n ≡ with_tetra (octa_at m) a t
found-joined m n a t x h there half e =
    stored-joined m n a t (e ∙ ap (λ o. stored_at (octa_at m) a (bit_xor o h)) there ∙ ap (λ o. stored_at (octa_at m) a (bit_xor (octa_at m a) o)) half)

pub ruleset joined = (found-joined)

-- What a tetra that is joined to memory does to the octas and to the bytes.
use Rattle.std.proofs.Common.{◌≡◌, ℕ, ◌/◌, ◌^◌, ◌<◌, arith, refl, ap, ◌∙◌, bit_xor}
use Rattle.std.proofs.lemmas.Grind.{common_steps}
use Rattle.mx_word.proofs.JoinedTetra.{byte_in-joined}
use Rattle.mx_mem.specs.Memory.{Stored, octa_at, octa_on, byte_at, byte_in, stored_at, with_tetra, in_half, bytes_with_tetra}

-- two addresses in one octa have the same octa
pub same-octa : (m : Stored) (q a : ℕ) → q / 8 ≡ a / 8 → octa_at m q ≡ octa_at m a
unfolding octa_on
same-octa m q a e = let page : q / 4096 ≡ a / 4096 = omega arith in rw (page, e) refl

stored-joined-at : (m : Stored) (a t q : ℕ) → stored_at (octa_at m) a (bit_xor (octa_at m a) (in_half a t)) q ≡ with_tetra (octa_at m) a t q
stored-joined-at m a t q = grind (arith, common_steps, same-octa m q a)

pub stored-joined : (m n : Stored) (a t : ℕ) → octa_at n ≡ stored_at (octa_at m) a (bit_xor (octa_at m a) (in_half a t)) → octa_at n ≡ with_tetra (octa_at m) a t
stored-joined m n a t e = e ∙ (λ i q. stored-joined-at m a t q i)

pub joined-bytes : (m n : Stored) (a t : ℕ) → t < 2 ^ 32 → octa_at n ≡ with_tetra (octa_at m) a t → byte_at n ≡ bytes_with_tetra (byte_at m) a t
joined-bytes m n a t l e = ap byte_in e ∙ byte_in-joined (octa_at m) a t l

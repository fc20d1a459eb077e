-- What a tetra that is joined to memory does to the bytes.
use Rattle.std.proofs.Common.{◌≡◌, ℕ, ◌-◌, ◌*◌, ◌/◌, ◌%◌, ◌^◌, ◌<◌, cond, ltb, arith, sym, ◌∙◌, ap, bit_xor, zero, suc, ⊎_elim}
use Rattle.std.proofs.lemmas.Grind.{common_steps}
use Rattle.std.proofs.lemmas.Nat.{xor_shr, xor_mod}
use Rattle.std.proofs.lemmas.Bool.{cases_eq}
use Rattle.std.specs.Int.Bits.{xor_zero_r}
use Rattle.mx_word.specs.Octas.{byte_in, with_tetra, in_half, tetra_byte, bytes_with_tetra}

-- the byte at place r of an octa, counted from the high end
byte_at_place : ℕ → ℕ → ℕ
byte_at_place x r = x / 2 ^ (8 * (7 - r)) % 256

byte-xor : (x y r : ℕ) → byte_at_place (bit_xor x y) r ≡ bit_xor (byte_at_place x r) (byte_at_place y r)
unfolding byte_at_place
byte-xor x y r = ap (λ n. n % 2 ^ 8) (xor_shr x y (8 * (7 - r))) ∙ xor_mod (x / 2 ^ (8 * (7 - r))) (y / 2 ^ (8 * (7 - r))) 8

-- the bytes of a tetra in the high half and in the low half of an octa
in-high : (r t : ℕ) → r < 8 → t < 2 ^ 32 → byte_at_place (t * 2 ^ 32) r ≡ cond (ltb r 4) (t / 2 ^ (8 * (3 - r % 4)) % 256) 0
unfolding byte_at_place
in-high zero t l f = omega arith
in-high (suc zero) t l f = omega arith
in-high (suc (suc zero)) t l f = omega arith
in-high (suc (suc (suc zero))) t l f = omega arith
in-high (suc (suc (suc (suc zero)))) t l f = omega arith
in-high (suc (suc (suc (suc (suc zero))))) t l f = omega arith
in-high (suc (suc (suc (suc (suc (suc zero)))))) t l f = omega arith
in-high (suc (suc (suc (suc (suc (suc (suc zero))))))) t l f = omega arith
in-high (suc (suc (suc (suc (suc (suc (suc (suc r)))))))) t l f = absurd (omega arith)

in-low : (r t : ℕ) → r < 8 → t < 2 ^ 32 → byte_at_place t r ≡ cond (ltb r 4) 0 (t / 2 ^ (8 * (3 - r % 4)) % 256)
unfolding byte_at_place
in-low zero t l f = omega arith
in-low (suc zero) t l f = omega arith
in-low (suc (suc zero)) t l f = omega arith
in-low (suc (suc (suc zero))) t l f = omega arith
in-low (suc (suc (suc (suc zero)))) t l f = omega arith
in-low (suc (suc (suc (suc (suc zero))))) t l f = omega arith
in-low (suc (suc (suc (suc (suc (suc zero)))))) t l f = omega arith
in-low (suc (suc (suc (suc (suc (suc (suc zero))))))) t l f = omega arith
in-low (suc (suc (suc (suc (suc (suc (suc (suc r)))))))) t l f = absurd (omega arith)

-- where an address lies in the octa of another, the tetra's byte there
half-byte : (a t q : ℕ) → t < 2 ^ 32 → q / 8 ≡ a / 8 → byte_at_place (in_half a t) (q % 8) ≡ tetra_byte a t q
half-byte a t q f e =
    let r : q % 8 < 8 = omega arith in
    let m : q % 8 % 4 ≡ q % 4 = omega arith in
    let high = in-high (q % 8) t r f in
    let low = in-low (q % 8) t r f in
    grind (arith, common_steps, high, low, m)

byte-with_tetra : (f : ℕ → ℕ) (a t q : ℕ) → t < 2 ^ 32 → byte_at_place (with_tetra f a t q) (q % 8) ≡ bit_xor (byte_at_place (f q) (q % 8)) (tetra_byte a t q)
byte-with_tetra f a t q l = ⊎_elim (λ e. inside e) (λ ne. outside ne) (cases_eq (q / 8) (a / 8))
  where
    inside : q / 8 ≡ a / 8 → byte_at_place (with_tetra f a t q) (q % 8) ≡ bit_xor (byte_at_place (f q) (q % 8)) (tetra_byte a t q)
    inside e =
        let whole : with_tetra f a t q ≡ bit_xor (f q) (in_half a t) = grind (arith, common_steps) in
        ap (λ n. byte_at_place n (q % 8)) whole ∙ byte-xor (f q) (in_half a t) (q % 8) ∙ ap (bit_xor (byte_at_place (f q) (q % 8))) (half-byte a t q l e)

    outside : (q / 8 ≡ a / 8 → ⊥) → byte_at_place (with_tetra f a t q) (q % 8) ≡ bit_xor (byte_at_place (f q) (q % 8)) (tetra_byte a t q)
    outside ne =
        let whole : with_tetra f a t q ≡ f q = grind (arith, common_steps) in
        let apart : q / 4 ≡ a / 4 → ⊥ = omega arith in
        let none : tetra_byte a t q ≡ 0 = grind (arith, common_steps) in
        ap (λ n. byte_at_place n (q % 8)) whole ∙ sym (ap (bit_xor (byte_at_place (f q) (q % 8))) none ∙ xor_zero_r (byte_at_place (f q) (q % 8)))

-- the same for the octas at all addresses
pub byte_in-joined : (f : ℕ → ℕ) (a t : ℕ) → t < 2 ^ 32 → byte_in (with_tetra f a t) ≡ bytes_with_tetra (byte_in f) a t
unfolding byte_at_place
byte_in-joined f a t l = λ i q. byte-with_tetra f a t q l i

-- Bytes that are placed one after another, and bytes that are joined.
use Rattle.std.proofs.Common.{◌≡◌, ℕ, zero, suc, ◌+◌, ◌*◌, ◌/◌, ◌%◌, ◌^◌, ◌==◌, List, [], ◌∷◌, ◌++◌, length, replicate, bit_xor, refl, sym, ap, ◌∙◌, arith, rules}
use Rattle.mx_stmt.proofs.Words.{cond_both, xor_assoc, xor_zero_l, xor_comm, xor_shr, xor_mod, pow-add, from_place, placed, common_steps, nat_tests}
use Rattle.std.specs.Int.{bytes_high_first, byte_at}
use Rattle.std.proofs.Math.Nat.{pow-suc}

-- two pairs that are joined in another order
pub xor-pairs : (a b c d : ℕ) → bit_xor (bit_xor a b) (bit_xor c d) ≡ bit_xor (bit_xor a c) (bit_xor b d)
xor-pairs a b c d = grind (arith, xor_assoc, xor_comm)

pub placed-append : (xs ys : List (ℕ × ℕ)) (a : ℕ) → placed (xs ++ ys) a ≡ bit_xor (placed xs a) (placed ys a)
placed-append [] ys a = sym (xor_zero_l (placed ys a))
placed-append (p ∷ ps) ys a = grind (arith, common_steps, nat_tests, placed-append ps ys a)

pub from-append : (a : ℕ) (xs ys : List ℕ) → from_place a (xs ++ ys) ≡ from_place a xs ++ from_place (a + length xs) ys
from-append a [] ys = ap (λ n. from_place n ys) (omega arith)
from-append a (x ∷ xs) ys = search (rules, from-append (a + 1) xs ys)

-- zeros change nothing
pub placed-zeros : (a n q : ℕ) → placed (from_place a (replicate n 0)) q ≡ 0
placed-zeros a zero q = refl
placed-zeros a (suc n) q = cond_both (q == a) _ _ (λ x. x ≡ 0) (λ _. xor_zero_l (placed (from_place (a + 1) (replicate n 0)) q) ∙ (placed-zeros (a + 1) n q)) (λ _. placed-zeros (a + 1) n q)

power : (i : ℕ) → 256 ^ i ≡ 2 ^ (8 * i)
power zero = refl
power (suc i) = pow-suc 256 i ∙ ap (λ n. n * 256) (power i) ∙ sym (pow-add 2 (8 * i) 8) ∙ ap (λ n. 2 ^ n) (omega arith)

-- the bytes of a joined number are joined
byte-joined : (i x y : ℕ) → byte_at i (bit_xor x y) ≡ bit_xor (byte_at i x) (byte_at i y)
byte-joined zero x y = xor_mod x y 8
byte-joined (suc i) x y =
    ap (λ n. bit_xor x y / n % 256) (power (suc i))
    ∙ ap (λ n. n % 2 ^ 8) (xor_shr x y (8 * suc i)) ∙ xor_mod (x / 2 ^ (8 * suc i)) (y / 2 ^ (8 * suc i)) 8
    ∙ sym (ap (λ n. bit_xor (x / n % 256) (y / n % 256)) (power (suc i)))

pub placed-joined : (a k x y q : ℕ) → placed (from_place a (bytes_high_first k (bit_xor x y))) q ≡ bit_xor (placed (from_place a (bytes_high_first k x)) q) (placed (from_place a (bytes_high_first k y)) q)
placed-joined a zero x y q = sym (xor_zero_l 0)
placed-joined a (suc k) x y q = search (rules, byte-joined, xor-pairs, placed-joined (a + 1) k x y q)

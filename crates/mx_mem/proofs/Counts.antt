-- How great the octas of a page are.
use Rattle.std.proofs.Common.{◌≡◌, ◌<◌, ◌≤◌, ℕ, List, length, get_or, replicate, arith, ⊎_elim}
use Rattle.std.specs.Int.Bits.{bit_or}
use Rattle.std.proofs.Math.ListN.{set}
use Rattle.std.proofs.lemmas.Bool.{cases_eq, cases_lt}
use Rattle.std.proofs.lemmas.List.{get_or-set_same, get_or-set_other, get_or-replicate, get_or_past, length-replicate}
use Rattle.std.proofs.lemmas.Nat.{le_or_l, le_or_r}
use Rattle.mx_mem.specs.Count.{AreAtMost}

pub most-set : (octas : List ℕ) (i x most : ℕ) → i < length octas → AreAtMost most octas → AreAtMost (bit_or most x) (set octas i x)
most-set octas i x most l h = λ k. ⊎_elim (λ e. here k e) (λ ne. there k ne) (cases_eq k i)
  where
    here : (k : ℕ) → k ≡ i → get_or (set octas i x) k 0 ≤ bit_or most x
    here k e = rw (e, get_or-set_same octas i x 0 l) (le_or_r most x)

    there : (k : ℕ) → (k ≡ i → ⊥) → get_or (set octas i x) k 0 ≤ bit_or most x
    there k ne = rw (get_or-set_other octas i k x 0 ne) (omega (arith, h k, le_or_l most x))

pub most-zeros : (n : ℕ) → AreAtMost 0 (replicate n 0)
most-zeros n = λ k. ⊎_elim (λ l. within k l) (λ m. past k m) (cases_lt k n)
  where
    within : (k : ℕ) → k < n → get_or (replicate n 0) k 0 ≤ 0
    within k l = omega (arith, get_or-replicate {A = ℕ} n k 0 0 l)

    past : (k : ℕ) → n ≤ k → get_or (replicate n 0) k 0 ≤ 0
    past k m = omega (arith, get_or_past (replicate {A = ℕ} n 0) k 0 (omega (arith, length-replicate {A = ℕ} n 0)))

pub ruleset counts = (most-set, most-zeros)

-- The tetras and the octas of bytes, one at a time.
use Rattle.std.proofs.Common.{◌≡◌, ℕ, ◌+◌, ◌-◌, ◌≤◌, length, List, [], ◌∷◌, get_or, take, drop, arith, refl}
use Rattle.mx_mmo.proofs.Words.{common_steps, tetra_from_bytes, octa_from_bytes, tetras_of, octas_of, nat_tests}

take-rest : (more : List ℕ) (n size : ℕ) → n ≡ length more + size → take (n - size) more ≡ more
take-rest more n size e = grind (arith, common_steps)

pub tetras-next : (r : List ℕ) (x : ℕ) → 4 ≤ length r → x ≡ tetra_from_bytes (get_or r 0 0 ∷ get_or r 1 0 ∷ get_or r 2 0 ∷ get_or r 3 0 ∷ []) →
    tetras_of r ≡ x ∷ tetras_of (take (length r - 4) (drop 4 r))
tetras-next r x h1 h2 = grind (arith, common_steps, nat_tests)

pub octas-next : (r : List ℕ) (x : ℕ) → 8 ≤ length r →
    x ≡ octa_from_bytes (get_or r 0 0 ∷ get_or r 1 0 ∷ get_or r 2 0 ∷ get_or r 3 0 ∷ get_or r 4 0 ∷ get_or r 5 0 ∷ get_or r 6 0 ∷ get_or r 7 0 ∷ []) →
    octas_of r ≡ x ∷ octas_of (take (length r - 8) (drop 8 r))
octas-next (a ∷ b ∷ c ∷ d ∷ e ∷ f ∷ g ∷ h ∷ more) x l p = rw (p, take-rest more (length (a ∷ b ∷ c ∷ d ∷ e ∷ f ∷ g ∷ h ∷ more)) 8 (omega arith)) refl
octas-next _ x l p = absurd (omega arith)

-- Lists of octas, put together and cut.
use Rattle.std.proofs.Common.{ℕ, zero, suc, ◌<◌, ◌^◌, List, [], ◌∷◌, ◌++◌, take, drop, replicate, slice_index, slice_set, arith}
use Rattle.mx_word.specs.Ranges.{AreOctas}

pub octas-append : (xs ys : List ℕ) → AreOctas xs → AreOctas ys → AreOctas (xs ++ ys)
octas-append [] ys p q = q
octas-append (x ∷ xs) ys p q = (p.0, octas-append xs ys p.1 q)

pub octas-zeros : (n : ℕ) → AreOctas (replicate n 0)
octas-zeros zero = tt
octas-zeros (suc n) = (omega arith, octas-zeros n)

pub octas-take : (n : ℕ) (xs : List ℕ) → AreOctas xs → AreOctas (take n xs)
octas-take zero xs h = tt
octas-take (suc n) [] h = tt
octas-take (suc n) (x ∷ xs) h = (h.0, octas-take n xs h.1)

pub octas-drop : (n : ℕ) (xs : List ℕ) → AreOctas xs → AreOctas (drop n xs)
octas-drop zero xs h = h
octas-drop (suc n) [] h = tt
octas-drop (suc n) (x ∷ xs) h = octas-drop n xs h.1

pub octas-set : (xs : List ℕ) (i x : ℕ) → AreOctas xs → x < 2 ^ 64 → AreOctas (slice_set xs i x)
octas-set [] i x h f = tt
octas-set (y ∷ xs) zero x h f = (f, h.1)
octas-set (y ∷ xs) (suc i) x h f = (h.0, octas-set xs i x h.1 f)

pub octa-of : (xs : List ℕ) (i : ℕ) → AreOctas xs → slice_index xs i < 2 ^ 64
octa-of [] i h = omega arith
octa-of (x ∷ xs) zero h = h.0
octa-of (x ∷ xs) (suc i) h = octa-of xs i h.1

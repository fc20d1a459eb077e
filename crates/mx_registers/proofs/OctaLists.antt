-- Lists of octas, told by each of their items.
use Rattle.std.proofs.Common.{◌≡◌, ℕ, zero, suc, ◌<◌, ◌^◌, List, [], ◌∷◌, take, drop, slice_index}
use Rattle.mx_word.specs.Ranges.{AreOctas}

-- each item of a list is an octa
abbrev pub EachIsOcta : List ℕ → Type 0
EachIsOcta xs = (i : ℕ) → slice_index xs i < 2 ^ 64

pub are-octas : (xs : List ℕ) → EachIsOcta xs → AreOctas xs
are-octas [] h = tt
are-octas (x ∷ xs) h = (h 0, are-octas xs (λ i. h (suc i)))

take-octas : (n : ℕ) (xs : List ℕ) → AreOctas xs → AreOctas (take n xs)
take-octas zero xs h = tt
take-octas (suc n) [] h = tt
take-octas (suc n) (x ∷ xs) h = (h.0, take-octas n xs h.1)

drop-octas : (n : ℕ) (xs : List ℕ) → AreOctas xs → AreOctas (drop n xs)
drop-octas zero xs h = h
drop-octas (suc n) [] h = tt
drop-octas (suc n) (x ∷ xs) h = drop-octas n xs h.1

-- the first items of a list of octas, and those after them
pub taken-octas : (n : ℕ) (xs ys : List ℕ) → EachIsOcta xs → ys ≡ take n xs → AreOctas ys
taken-octas n xs ys h e = rw e (take-octas n xs (are-octas xs h))

pub dropped-octas : (n : ℕ) (xs ys : List ℕ) → EachIsOcta xs → ys ≡ drop n xs → AreOctas ys
dropped-octas n xs ys h e = rw e (drop-octas n xs (are-octas xs h))

pub ruleset parts = (are-octas, taken-octas, dropped-octas)

-- Lists of bytes, put together.
use Rattle.std.proofs.Common.{◌≡◌, ℕ, zero, suc, ◌+◌, ◌<◌, ◌^◌, List, [], ◌∷◌, ◌++◌, take, drop, get_or, replicate, arith, refl}
use Rattle.mx_word.specs.Ranges.{AreBytes}

-- two lists of bytes, one after the other
pub bytes-append : (front more : List ℕ) → AreBytes front → AreBytes more → AreBytes (front ++ more)
bytes-append [] more p q = q
bytes-append (b ∷ front) more p q = (p.0, bytes-append front more p.1 q)

-- zeros are bytes
pub bytes-zeros : (n : ℕ) → AreBytes (replicate n 0)
bytes-zeros zero = tt
bytes-zeros (suc n) = (omega arith, bytes-zeros n)

-- numbers that are bytes place by place
pub bytes-each : (bytes : List ℕ) → ((i : ℕ) → get_or bytes i 0 < 2 ^ 8) → AreBytes bytes
bytes-each [] h = tt
bytes-each (b ∷ bytes) h = (h 0, bytes-each bytes (λ i. h (suc i)))

-- what holds of each byte holds of those before a place and of those after it
pub bytes-front : (n : ℕ) (bytes : List ℕ) → AreBytes bytes → AreBytes (take n bytes)
bytes-front zero bytes h = tt
bytes-front (suc n) [] h = tt
bytes-front (suc n) (b ∷ bytes) h = (h.0, bytes-front n bytes h.1)

pub bytes-after : (n : ℕ) (bytes : List ℕ) → AreBytes bytes → AreBytes (drop n bytes)
bytes-after zero bytes h = h
bytes-after (suc n) [] h = tt
bytes-after (suc n) (b ∷ bytes) h = bytes-after n bytes h.1

-- four bytes more, in front
pub take-four : (n a b c d : ℕ) (more : List ℕ) → take (4 + n) (a ∷ b ∷ c ∷ d ∷ more) ≡ a ∷ b ∷ c ∷ d ∷ take n more
take-four n a b c d more = let e : 4 + n ≡ suc (suc (suc (suc n))) = omega arith in rw e refl

pub drop-four : (n a b c d : ℕ) (more : List ℕ) → drop (4 + n) (a ∷ b ∷ c ∷ d ∷ more) ≡ drop n more
drop-four n a b c d more = let e : 4 + n ≡ suc (suc (suc (suc n))) = omega arith in rw e refl

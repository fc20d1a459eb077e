-- The front of a text that has no more bytes, and what follows it.
use Rattle.std.proofs.Common.{◌≡◌, ℕ, zero, suc, ◌≤◌, List, [], ◌∷◌, length, take, drop, arith, refl}
use Rattle.std.proofs.lemmas.List.{take_all}

pub whole-front : (count : ℕ) (text : List ℕ) → length text ≤ count → take count text ≡ text
whole-front count text e = take_all count text e

pub none-following : (count : ℕ) (text : List ℕ) → length text ≤ count → drop count text ≡ []
none-following zero [] e = refl
none-following zero (b ∷ bs) e = absurd (omega (arith, e))
none-following (suc n) [] e = refl
none-following (suc n) (b ∷ bs) e = none-following n bs (omega (arith, e))

pub ruleset fronts = (whole-front, none-following)

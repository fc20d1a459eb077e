-- Parts of a text.
use Rattle.std.proofs.Common.{◌≡◌, ◌≤◌, ℕ, zero, suc, List, [], ◌∷◌, length, take, drop, refl, arith}
use Rattle.std.proofs.lemmas.List.{take_all}

pub whole-front : (count : ℕ) (text : List ℕ) → length text ≤ count → take count text ≡ text
whole-front count text e = take_all count text e

pub none-after : (count : ℕ) (text : List ℕ) → length text ≤ count → drop count text ≡ []
none-after zero [] e = refl
none-after zero (b ∷ bs) e = absurd (omega (arith, e))
none-after (suc n) [] e = refl
none-after (suc n) (b ∷ bs) e = none-after n bs (omega (arith, e))

pub ruleset fronts = (whole-front, none-after)

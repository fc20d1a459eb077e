-- Digits without zeros in front.
use Rattle.std.proofs.Common.{◌≡◌, ℕ, ◌<◌, List, ◌∷◌, length, refl, arith}
use Rattle.mx_stab.specs.Numbers.{fewest_digits}

pub few-stay : (digits : List ℕ) → length digits < 2 → fewest_digits digits ≡ digits
few-stay (d ∷ e ∷ more) l = absurd (omega arith)
few-stay digits l = refl

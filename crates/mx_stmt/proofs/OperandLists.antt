-- Operand lists of one, two and three operands, as patterns read them.
use Rattle.mx_stmt.proofs.Words.{common_steps, nat_tests}
use Rattle.std.proofs.Common.{◌≡◌, ◌<◌, ◌≤◌, List, [], ◌∷◌, length, get_or, arith}

pub one-read : {X : Type 0} (xs : List X) (x : X) → 1 ≤ length xs → length xs < 2 → x ≡ get_or xs 0 x → xs ≡ x ∷ []
one-read xs x h1 h2 h3 = grind (arith, common_steps, nat_tests)

pub two-read : {X : Type 0} (xs : List X) (x y : X) → 2 ≤ length xs → length xs < 3 → x ≡ get_or xs 0 x → y ≡ get_or xs 1 y → xs ≡ x ∷ y ∷ []
two-read xs x y h1 h2 h3 h4 = grind (arith, common_steps, nat_tests)

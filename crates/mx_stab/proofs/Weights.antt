-- How much is due.
use Rattle.std.proofs.Common.{◌≡◌, ◌+◌, ◌≤◌, List, [], ◌∷◌, ◌++◌, Bool, arith}
use Rattle.mx_stab.proofs.Words.{due_weight, all_weight, due_if, Due, Subtrie}

pub all_weight-append : (before above : List Due) → all_weight (before ++ above) ≡ all_weight before + all_weight above
all_weight-append [] above = omega arith
all_weight-append (d ∷ before) above = omega (arith, (all_weight-append before above))

pub all_weight-push : (before : List Due) (d : Due) → all_weight (before ++ d ∷ []) ≡ all_weight before + due_weight d
all_weight-push before d = omega (arith, all_weight-append before (d ∷ []))

pub all_weight-subtrie : (is : Bool) → all_weight (due_if is Subtrie) ≤ 1
all_weight-subtrie is = grind arith

pub ruleset weights = (all_weight-append, all_weight-push, all_weight-subtrie)

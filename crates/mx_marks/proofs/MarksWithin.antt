-- The mark of operands is within them.
use Rattle.std.proofs.Common.{◌≤◌, ◌+◌, ℕ, [], ◌∷◌, length, arith}
use Rattle.mx_marks.specs.Fields.{Line}
use Rattle.mx_marks.specs.Marks.{operands_mark}

pub first-within : (from : ℕ) (operands part : Line) → from ≤ (operands_mark from operands part).from
first-within from operands [] = omega arith
first-within from operands (b ∷ bs) = omega arith

pub last-within : (from : ℕ) (operands part : Line) → (operands_mark from operands part).from ≤ from + length operands
last-within from operands [] = omega arith
last-within from operands (b ∷ bs) = omega arith

pub ruleset withins = (first-within, last-within)

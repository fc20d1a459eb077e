-- The first elements of lists.
use Rattle.std.proofs.Common.{◌≡◌, ◌≤◌, ℕ, List, length, take, sym}
use Rattle.std.proofs.lemmas.List.{take_all}
use Rattle.std.proofs.lemmas.Slice.Eq.{bytes_eq-Decides}
use Rattle.mx_view.specs.declared.cells.Cell.{Cell}

pub whole-cells : (count : ℕ) (cells : List Cell) → length cells ≤ count → cells ≡ take count cells
whole-cells count cells le = sym (take_all count cells le)

pub whole-text : (count : ℕ) (text : List ℕ) → length text ≤ count → take count text ≡ text
whole-text count text le = take_all count text le

pub ruleset fronts = (whole-cells, whole-text)

pub ruleset letters = (bytes_eq-Decides)

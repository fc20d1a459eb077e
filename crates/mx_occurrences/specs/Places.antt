-- Where names are: each is in its line at its place, and none comes before the end of the one before it.
use Rattle.std.specs.Prelude.{◌≡◌, ◌≤◌, ◌<◌, ◌+◌, ℕ, List, length, take, drop, ◌⊎◌}
use Rattle.std.specs.List.{AllByRecursion, AllPairs}
use Rattle.mx_line.specs.Lines.{lines_of}
use Rattle.mx_marks.specs.Mending.{line_text}
use Rattle.mx_occurrences.specs.declared.occurrence.Occurrence.{Occurrence}

-- these bytes are in a line at a place
abbrev pub IsAt : List ℕ → ℕ → List ℕ → Type 0
IsAt line from text = take (length text) (drop from line) ≡ text

-- so are those of a name in its line
abbrev pub IsInPlace : List (List ℕ) → Occurrence → Type 0
IsInPlace lines o = IsAt (line_text o.line lines) o.from o.text

abbrev pub AreInPlace : List ℕ → List Occurrence → Type 0
AreInPlace source names = AllByRecursion (IsInPlace (lines_of source)) names

-- the second of two names is in a later line, or in the same line and not before the end of the first
abbrev pub IsAfter : Occurrence → Occurrence → Type 0
IsAfter o p = (o.line < p.line) ⊎ ((o.line ≡ p.line) × (o.from + length o.text ≤ p.from))

-- so are any two names of a list
abbrev pub Ascend : List Occurrence → Type 0
Ascend names = AllPairs IsAfter names

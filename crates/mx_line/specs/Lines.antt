-- The lines of a source.
-- (MMIXware, the part on MMIXAL: a source is lines. How far a source may reach: a rule of this program.)
use Rattle.std.specs.Prelude.{ℕ, ◌+◌, ◌-◌, ◌^◌, List, [], ◌∷◌, length, take, sum_by, Bool, nat_lt}
use Rattle.mx_line.specs.Pieces.{split}

abbrev pub without_empty_last : List (List ℕ) → List (List ℕ)
without_empty_last [] = []
without_empty_last ([] ∷ []) = []
without_empty_last ((b ∷ bs) ∷ []) = (b ∷ bs) ∷ []
without_empty_last (line ∷ next ∷ lines) = line ∷ without_empty_last (next ∷ lines)

-- The lines are the pieces between the newline bytes; an empty last piece is no line.
unfoldable pub lines_of : List ℕ → List (List ℕ)
lines_of source = without_empty_last (split 10 source)

-- how many bytes the first i lines have with the i - 1 newlines between them
abbrev pub size_up_to : ℕ → List (List ℕ) → ℕ
size_up_to i lines = sum_by length (take i lines) + (i - 1)

-- Line i, counted from 1, is too far: the lines up to it and the newlines between them have
-- more than 2^22 bytes. A newline belongs to no line.
abbrev pub is_too_far : List (List ℕ) → ℕ → Bool
is_too_far lines i = nat_lt (2 ^ 22) (size_up_to i lines)

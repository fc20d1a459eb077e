-- Words that differ by a letter at most, where upper and lower case are the same.
use Rattle.std.specs.Prelude.{ℕ, Bool, ◌||◌, List, [], ◌∷◌, if◌then◌else◌}
use Rattle.std.specs.Char.{eq_ignore_ascii_case}
use Rattle.std.specs.Str.{str_eq_ignore_ascii_case}
use Rattle.mx_explain.specs.Topics.{Row, name_of}

abbrev pub without_first : List ℕ → List ℕ
without_first [] = []
without_first (b ∷ bs) = bs

-- whether two texts are the same but for case
unfoldable pub is_same : List ℕ → List ℕ → Bool
is_same left right = str_eq_ignore_ascii_case left right

-- whether two texts are the same once both lose their first byte, or one of them
unfoldable pub is_one_off : List ℕ → List ℕ → Bool
is_one_off left right =
    is_same (without_first left) (without_first right) || is_same left (without_first right) || is_same (without_first left) right

-- Whether two words are within one letter. What they have in common in front is passed over; of what is left one of them, or both,
-- may lose a letter.
unfoldable pub is_within_one : List ℕ → List ℕ → Bool
is_within_one [] name = is_one_off [] name
is_within_one (a ∷ word) [] = is_one_off (a ∷ word) []
is_within_one (a ∷ word) (b ∷ name) = if eq_ignore_ascii_case a b then is_within_one word name else is_one_off (a ∷ word) (b ∷ name)

-- whether a word is within one letter of the name of a row
abbrev pub is_near : List ℕ → Row → Bool
is_near word row = is_within_one word (name_of row)

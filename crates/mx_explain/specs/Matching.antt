-- Which rows a word is about.
use Rattle.std.specs.Prelude.{ℕ, Bool, false, ◌||◌, List, Option, None, Some, bytes_eq, decimal}
use Rattle.std.specs.List.{filter}
use Rattle.std.specs.Str.{str_eq_ignore_ascii_case}
use Rattle.mx_explain.specs.Topics.{Row, number_of, name_of}

-- whether a word is a number in decimal digits, if there is one
abbrev pub is_number : List ℕ → Option ℕ → Bool
is_number word None = false
is_number word (Some number) = bytes_eq word (decimal number)

-- whether a word is the number of a row, or its name; upper and lower case do not matter
unfoldable pub fits : List ℕ → Row → Bool
fits word row = is_number word (number_of row.topic) || str_eq_ignore_ascii_case word (name_of row)

-- the rows of a table that a word is about
abbrev pub found : List ℕ → List Row → List Row
found word rows = filter (fits word) rows

-- A text as a terminal may have it: control characters by their numbers.
use Rattle.std.specs.Prelude.{ℕ, ◌==◌, ◌&&◌, ◌||◌, Bool, not, nat_lt, List, [], ◌∷◌, ◌++◌, if◌then◌else◌, codes}
use Rattle.std.specs.List.{flat_map}
use Rattle.mx_text.specs.Numbers.{hex_digits}

-- tabs, newlines and carriage returns stay
abbrev pub is_kept : ℕ → Bool
is_kept b = b == 9 || b == 10 || b == 13

abbrev pub is_control : ℕ → Bool
is_control b = (nat_lt b 32 && not (is_kept b)) || b == 127

-- a byte, as `\x1b` where it is a control character
abbrev pub visible : ℕ → List ℕ
visible b = if is_control b then codes "\\x" ++ hex_digits 2 b else b ∷ []

abbrev pub visible_text : List ℕ → List ℕ
visible_text text = flat_map visible text

-- The parts of a line of the debugger.
use Rattle.std.specs.Prelude.{ℕ, ◌-◌, ◌==◌, ◌||◌, not, Bool, List, length, take}
use Rattle.std.specs.Char.{is_ascii_whitespace}
use Rattle.std.specs.List.{suffix_len}
use Rattle.mx_cmd.specs.Numerals.{front, past}

abbrev pub is_blank : ℕ → Bool
is_blank b = b == 32 || b == 9

abbrev pub is_ink : ℕ → Bool
is_ink b = not (is_blank b)

abbrev pub is_no_stroke : ℕ → Bool
is_no_stroke b = not (b == 47)

-- what follows the blanks at the front
abbrev pub without_blanks : List ℕ → List ℕ
without_blanks text = past is_blank text

-- the first word, and what follows it after blanks
unfoldable pub first_word : List ℕ → List ℕ
first_word text = front is_ink (without_blanks text)

unfoldable pub after_word : List ℕ → List ℕ
after_word text = without_blanks (past is_ink (without_blanks text))

-- the name in a word, and the rest from the first stroke on: `print/x` has the name `print` and the form `/x`
abbrev pub name_in : List ℕ → List ℕ
name_in word = front is_no_stroke word

abbrev pub form_in : List ℕ → List ℕ
form_in word = past is_no_stroke word

-- without white space at the end
abbrev pub trimmed : List ℕ → List ℕ
trimmed text = take (length text - suffix_len is_ascii_whitespace text) text

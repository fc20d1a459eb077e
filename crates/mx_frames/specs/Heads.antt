-- The header of a frame: lines, of which each ends with a carriage return and a newline, and then an empty line. One of them says how
-- many bytes the body has. (Language Server Protocol, "Base Protocol".)
use Rattle.std.specs.Prelude.{ℕ, zero, suc, ◌+◌, ◌-◌, ◌*◌, ◌^◌, ◌==◌, ◌||◌, nat_lt, Bool, true, not, List, [], ◌∷◌, length, drop, take, fold, codes, Option, None, Some, if◌then◌else◌}
use Rattle.std.specs.Str.{bytes_eq, str_eq_ignore_ascii_case}
use Rattle.mx_line.specs.Bytes.{run, past}
use Rattle.mx_word.specs.Kinds.{is_digit}

-- the end of a line, and an empty line: 13 is a carriage return and 10 a newline
abbrev pub head_end : List ℕ
head_end = 13 ∷ 10 ∷ 13 ∷ 10 ∷ []

-- whether a header ends here
abbrev pub ends_head : List ℕ → Bool
ends_head head = bytes_eq (drop (length head - 4) head) head_end

-- the name of the field, in capital or small letters
abbrev pub begins_with_name : List ℕ → Bool
begins_with_name text = str_eq_ignore_ascii_case (take 15 text) (codes "content-length:")

-- a blank or a tab in front of a value
abbrev pub is_gap : ℕ → Bool
is_gap b = b == 32 || b == 9

-- a number by its digits; one that is above 2^26 stays so
abbrev pub next_value : ℕ → ℕ → ℕ
next_value value b = if nat_lt (2 ^ 26) value then value else value * 10 + (b - 48)

abbrev pub value_of : List ℕ → ℕ
value_of digits = fold next_value 0 digits

-- a value ends at the end of its line or at a blank
abbrev pub ends_value : List ℕ → Bool
ends_value [] = true
ends_value (b ∷ bs) = b == 13 || b == 32 || b == 9

-- a body has at most 2^26 bytes
abbrev pub length_if : ℕ → Option ℕ
length_if value = if nat_lt (2 ^ 26) value then None else Some value

-- the number at the front of a text, if it is one
unfoldable pub number_at : List ℕ → Option ℕ
number_at text =
    if length (run is_digit text) == 0 || not (ends_value (past is_digit text)) then None
    else length_if (value_of (take (length (run is_digit text)) text))

abbrev pub is_no_newline : ℕ → Bool
is_no_newline b = not (b == 10)

abbrev pub next_line : List ℕ → List ℕ
next_line text = drop 1 (drop (length (run is_no_newline text)) text)

-- what the first of so many lines says that has the name
unfoldable pub length_in : ℕ → List ℕ → Option ℕ
length_in zero text = None
length_in (suc n) text = if begins_with_name text then number_at (past is_gap (drop 15 text)) else length_in n (next_line text)

abbrev pub body_length : List ℕ → Option ℕ
body_length head = length_in (length head) head

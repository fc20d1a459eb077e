-- The texts of JSON values (RFC 8259), as they are written here: with no blanks, and the characters of strings as they are, but for
-- those that have to be escaped.
use Rattle.std.specs.Prelude.{ℕ, ◌==◌, Bool, true, false, nat_lt, List, [], ◌∷◌, ◌++◌, Option, None, Some, if◌then◌else◌, codes, decimal}
use Rattle.std.specs.List.{flat_map}
use Rattle.std.specs.Str.{is_utf8}
use Rattle.std.specs.Str.Lossy.{utf8_lossy}
use Rattle.mx_text.specs.Numbers.{hex_digits}

-- ---- strings

-- a control character: by a letter, if it has one, or else by its number
abbrev pub control : ℕ → List ℕ
control b =
    if b == 8 then codes "\\b" else if b == 9 then codes "\\t" else if b == 10 then codes "\\n"
    else if b == 12 then codes "\\f" else if b == 13 then codes "\\r" else codes "\\u00" ++ hex_digits 2 b

-- a byte of UTF-8: quotation marks, backslashes and control characters are escaped
abbrev pub escaped : ℕ → List ℕ
escaped b = if b == 34 then codes "\\\"" else if b == 92 then codes "\\\\" else if nat_lt b 32 then control b else b ∷ []

-- between quotation marks, as it is
abbrev pub quoted : List ℕ → List ℕ
quoted plain = codes "\"" ++ plain ++ codes "\""

-- the string of bytes, with U+FFFD where they are no UTF-8
unfoldable pub string : List ℕ → List ℕ
string bytes = quoted (flat_map escaped (utf8_lossy bytes))

unfoldable pub string_if : Option (List ℕ) → List ℕ
string_if None = codes "null"
string_if (Some bytes) = string bytes

-- ---- bytes that are no UTF-8

abbrev pub hex_of : List ℕ → List ℕ
hex_of bytes = flat_map (hex_digits 2) bytes

-- the beginning of an object that has these bytes as a text: where they are no UTF-8, it has their digits, too
unfoldable pub object_of : List ℕ → List ℕ
object_of bytes = if is_utf8 bytes then codes "{" else codes "{\"bytes\":" ++ quoted (hex_of bytes) ++ codes ","

-- ---- other values

unfoldable pub number_if : Option ℕ → List ℕ
number_if None = codes "null"
number_if (Some n) = decimal n

unfoldable pub flag : Bool → List ℕ
flag true = codes "true"
flag false = codes "false"

-- a list of values, each of which has the text f
abbrev pub further : {A : Type 0} → (A → List ℕ) → List A → List ℕ
further f values = flat_map (λ x. codes "," ++ f x) values

abbrev pub array : {A : Type 0} → (A → List ℕ) → List A → List ℕ
array f [] = codes "[]"
array f (x ∷ values) = codes "[" ++ f x ++ further f values ++ codes "]"

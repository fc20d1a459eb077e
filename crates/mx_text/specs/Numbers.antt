-- The texts of octas.
-- A rule of this program.
use Rattle.std.specs.Prelude.{ℕ, zero, suc, ◌+◌, ◌/◌, ◌%◌, ◌^◌, List, [], ◌∷◌, ◌++◌, map, ◌&&◌, nat_lt, nat_le, if◌then◌else◌, codes}
use Rattle.std.specs.Fmt.{signed_decimal}
use Rattle.mx_word.specs.Words.{signed_value, octa_to_bytes}
use Rattle.mx_text.specs.declared.numbers.Form.{Form}
use Rattle.mx_text.specs.declared.numbers.Form.TheVariants.{Decimal, Hex, Chars}

-- a hexadecimal digit, in lower case
abbrev pub hex_digit : ℕ → ℕ
hex_digit d = if nat_lt d 10 then 48 + d else 87 + d

-- the last k hexadecimal digits of a number
unfoldable pub hex_digits : ℕ → ℕ → List ℕ
hex_digits zero x = []
hex_digits (suc k) x = hex_digit (x / 16 ^ k % 16) ∷ hex_digits k x

-- `#` and the 16 digits of an octa
abbrev pub hex_text : ℕ → List ℕ
hex_text x = codes "#" ++ hex_digits 16 x

-- the signed value, in decimal digits
abbrev pub decimal_text : ℕ → List ℕ
decimal_text x = signed_decimal (signed_value x)

-- a byte as it is shown: itself from 32 to 126, otherwise a dot
abbrev pub shown_byte : ℕ → ℕ
shown_byte b = if nat_le 32 b && nat_le b 126 then b else 46

-- the eight bytes from the high end, between double quotes
abbrev pub chars_text : ℕ → List ℕ
chars_text x = codes "\"" ++ map shown_byte (octa_to_bytes x) ++ codes "\""

-- an octa in one of the three forms
abbrev pub shown_text : Form → ℕ → List ℕ
shown_text Decimal x = decimal_text x
shown_text Hex x = hex_text x
shown_text Chars x = chars_text x

-- Operand fields.
-- (MMIXware, the part on MMIXAL: where operands end; strings and character constants; TAOCP 1, Fascicle 1, section
-- 1.3.2'.)
use Rattle.std.specs.Prelude.{ℕ, ◌+◌, List, [], ◌∷◌, Bool, true, ◌==◌, ◌||◌, if◌then◌else◌, Result, Ok, Err, drop}
use Rattle.mx_word.specs.Results.{map_ok}
use Rattle.mx_line.specs.declared.faults.LineFault.{LineFault}
use Rattle.mx_line.specs.declared.faults.LineFault.TheVariants.{OpenString, OpenChar}
use Rattle.mx_line.specs.Bytes.{is_blank}

-- where a byte of an operand field is
pub data Within : Type 0 where
  nothing : Within  -- neither in a string nor in a character constant
  string : Within  -- after the quote that opens a string
  constant : Within  -- after the apostrophe that opens a character constant
  closing : Within  -- after the byte of a character constant

-- A blank or `;` ends an operand field, outside of strings and character constants.
abbrev pub ends_field : ℕ → Bool
ends_field b = is_blank b || b == 59

-- whether a text has no byte or begins with one that ends an operand field or an opcode
abbrev pub ends_here : List ℕ → Bool
ends_here [] = true
ends_here (b ∷ bs) = ends_field b

-- a length and more bytes
abbrev pub more : ℕ → Result ℕ LineFault → Result ℕ LineFault
more count rest = map_ok (λ n. count + n) rest

-- How many bytes the operand field at the front of a text has. A string is closed by the next
-- quote on the line; a character constant is an apostrophe, any one byte, and an apostrophe.
unfoldable pub field_from : Within → List ℕ → Result ℕ LineFault
field_from nothing [] = Ok 0
field_from nothing (b ∷ bs) =
    if b == 34 then more 1 (field_from string bs)
    else if b == 39 then more 1 (field_from constant bs)
    else if ends_field b then Ok 0
    else more 1 (field_from nothing bs)
field_from string [] = Err OpenString
field_from string (b ∷ bs) = if b == 34 then more 1 (field_from nothing bs) else more 1 (field_from string bs)
field_from constant [] = Err OpenChar
field_from constant (b ∷ bs) = more 1 (field_from closing bs)
field_from closing [] = Err OpenChar
field_from closing (b ∷ bs) = if b == 39 then more 1 (field_from nothing bs) else Err OpenChar

abbrev pub field_length : List ℕ → Result ℕ LineFault
field_length text = field_from nothing text

-- the field's length by the length of what is first in it: a string, a character constant or
-- one byte, and 0 where the field ends
abbrev pub after_first : List ℕ → Result ℕ LineFault → Result ℕ LineFault
after_first text (Err fault) = Err fault
after_first text (Ok count) = if count == 0 then Ok 0 else more count (field_length (drop count text))

-- The parts of an operand field, and the first one that a fault is about.
use Rattle.std.specs.Prelude.{ℕ, zero, suc, ◌+◌, ◌-◌, ◌*◌, ◌^◌, ◌==◌, ◌&&◌, ◌||◌, nat_lt, nat_le, Bool, false, not, if◌then◌else◌, List, [], ◌∷◌, length, drop, fold, is_some}
use Rattle.mx_word.specs.Kinds.{is_digit, is_letter, is_name_byte}
use Rattle.mx_line.specs.Bytes.{run}
use Rattle.mx_line.specs.Lines.{lines_of}
use Rattle.mx_ops.specs.Predefined.{predefined_value}
use Rattle.mx_marks.specs.Fields.{after_comma, word}
use Rattle.mx_marks.specs.Labels.{is_label, labels_data}
use Rattle.mx_marks.specs.declared.tokens.Wanted.{Wanted}
use Rattle.mx_marks.specs.declared.tokens.Wanted.TheVariants.{Unknown, Ahead, Above, Address, Register, Sum}

-- ---- parts

-- a byte in a string
abbrev pub is_in_string : ℕ → Bool
is_in_string b = not (b == 34)

-- How many bytes the first part has: 34 opens a string, 39 is an apostrophe, 35 begins a hexadecimal number, and 36 a register. Names and other numbers
-- are letters and digits, and all else is one byte.
abbrev pub part_length : List ℕ → ℕ
part_length [] = 0
part_length (b ∷ bs) =
    if b == 34 then length (run is_in_string bs) + 2
    else if b == 39 then 3
    else if b == 35 then length (word bs) + 1
    else if b == 36 then length (run is_digit bs) + 1
    else if is_name_byte b then length (word (b ∷ bs))
    else 1

-- ---- numbers

-- A number by its digits; one that is above 2^40 stays so.
abbrev pub digit_of : ℕ → ℕ
digit_of b = if nat_le b 57 then b - 48 else if nat_le b 70 then b - 55 else b - 87

abbrev pub next_value : ℕ → ℕ → ℕ → ℕ
next_value base value b = if nat_lt (2 ^ 40) value then value else value * base + digit_of b

abbrev pub value_of : ℕ → List ℕ → ℕ
value_of base digits = fold (next_value base) 0 digits

-- whether a text begins with a number above a limit, or with a minus and a digit
abbrev pub begins_digit : List ℕ → Bool
begins_digit [] = false
begins_digit (b ∷ bs) = is_digit b

abbrev pub is_above : ℕ → List ℕ → Bool
is_above limit [] = false
is_above limit (b ∷ bs) =
    if b == 45 then begins_digit bs
    else if b == 35 then nat_lt limit (value_of 16 (word bs))
    else is_digit b && nat_lt limit (value_of 10 (run is_digit (b ∷ bs)))

-- ---- names

-- a name that MMIXAL defines itself
abbrev pub is_predefined : List ℕ → Bool
is_predefined name = is_some (predefined_value (58 ∷ name))

abbrev pub begins_name : List ℕ → Bool
begins_name [] = false
begins_name (b ∷ bs) = is_letter b

-- whether a text begins with a name that is no label of this many lines of a source
abbrev pub is_unknown : List ℕ → ℕ → List ℕ → Bool
is_unknown source most text =
    if begins_name text then not (is_label (word text) most (lines_of source)) && not (is_predefined (word text)) else false

-- whether a word is a digit and `F`
abbrev pub is_ahead : List ℕ → Bool
is_ahead (d ∷ f ∷ []) = is_digit d && f == 70
is_ahead text = false

-- ---- registers

-- whether a text begins with a register above the last one: 36 is its mark
abbrev pub begins_no_register : List ℕ → Bool
begins_no_register [] = false
begins_no_register (b ∷ bs) = b == 36 && nat_lt 255 (value_of 10 (run is_digit bs))

-- a plus, which is 43, in front of a register
abbrev pub begins_sum : List ℕ → Bool
begins_sum (b ∷ c ∷ cs) = b == 43 && c == 36
begins_sum text = false

-- From the number on that is in the place of a register: the first or the second of operands, and not the last one.
abbrev pub leads_number : List ℕ → Bool
leads_number [] = false
leads_number (b ∷ bs) = (is_digit b || b == 35) && not (length (after_comma (b ∷ bs)) == 0)

abbrev pub number_part : List ℕ → List ℕ
number_part operands =
    if leads_number operands then operands else if leads_number (after_comma operands) then after_comma operands else []

-- ---- the first part that is wanted

abbrev pub is_wanted : Wanted → List ℕ → ℕ → List ℕ → Bool
is_wanted Unknown source most text = is_unknown source most text
is_wanted Ahead source most text = is_ahead (word text)
is_wanted (Above limit) source most text = is_above limit text
is_wanted Address source most text = begins_name text && labels_data (word text) source
is_wanted Register source most text = begins_no_register text
is_wanted Sum source most text = begins_sum text

-- a text from the first of its parts on, of this many at most, that is wanted
unfoldable pub from_part : ℕ → Wanted → List ℕ → ℕ → List ℕ → List ℕ
from_part zero kind source most text = []
from_part (suc n) kind source most text =
    if is_wanted kind source most text then text else from_part n kind source most (drop (part_length text) text)

-- how long the part is that a text begins with, a minus with its number included
abbrev pub marked_length : List ℕ → ℕ
marked_length [] = 0
marked_length (b ∷ bs) = if b == 45 || b == 35 || b == 36 then length (word bs) + 1 else if is_name_byte b then length (word (b ∷ bs)) else 1

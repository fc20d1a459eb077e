-- The notation in which places are shown, and in which they may be written, too: a name with a number added or taken away, as in
-- `Loop+8` and `$253-12`, and an octa, a tetra, a wyde or a byte by its address, as in `M8[#2000000000000028]` and `M4[Count+4]`.
use Rattle.std.specs.Prelude.{ℕ, ◌+◌, ◌%◌, ◌^◌, ◌==◌, ◌||◌, ◌&&◌, not, Bool, List, [], ◌∷◌, Option, None, Some, bytes_eq, codes, if◌then◌else◌}
use Rattle.mx_cmd.specs.Numerals.{front, past}
use Rattle.mx_ask.specs.Places.{negated, octa_in}
use Rattle.mx_ask.specs.declared.units.Unit.{Unit}
use Rattle.mx_ask.specs.declared.units.Unit.TheVariants.{Octa, Tetra, Wyde, Byte}

-- ---- sums

-- `+` and `-`
abbrev pub is_no_sum : ℕ → Bool
is_no_sum b = not (b == 43 || b == 45)

-- what is in front of the first of them, and the rest from there on
abbrev pub base_in : List ℕ → List ℕ
base_in text = front is_no_sum text

abbrev pub from_sum : List ℕ → List ℕ
from_sum text = past is_no_sum text

-- the number that is added, modulo 2^64
abbrev pub offset_in : List ℕ → Option ℕ
offset_in [] = None
offset_in (b ∷ bs) = if b == 43 then octa_in bs else if b == 45 then negated (octa_in bs) else None

abbrev pub plus : Option ℕ → Option ℕ → Option ℕ
plus None offset = None
plus (Some n) None = None
plus (Some n) (Some offset) = Some ((n + offset) % 2 ^ 64)

-- ---- brackets

abbrev pub is_no_closing : ℕ → Bool
is_no_closing b = not (b == 93)

-- what is in front of a bracket that ends a text
abbrev pub closed : List ℕ → Option (List ℕ)
closed text = if bytes_eq (past is_no_closing text) (codes "]") then Some (front is_no_closing text) else None

-- the unit with so many bytes
abbrev pub unit_of_size : ℕ → Option Unit
unit_of_size b =
    if b == 56 then Some Octa else if b == 52 then Some Tetra else if b == 50 then Some Wyde else if b == 49 then Some Byte else None

abbrev pub with_unit : Option Unit → Option (List ℕ) → Option (Unit × List ℕ)
with_unit None text = None
with_unit (Some unit) None = None
with_unit (Some unit) (Some text) = Some (unit, text)

-- the unit of memory that a text writes in brackets, and what it writes there of its address
abbrev pub bracketed : List ℕ → Option (Unit × List ℕ)
bracketed [] = None
bracketed (m ∷ []) = None
bracketed (m ∷ size ∷ []) = None
bracketed (m ∷ size ∷ opening ∷ text) =
    if m == 77 && opening == 91 then with_unit (unit_of_size size) (closed text) else None

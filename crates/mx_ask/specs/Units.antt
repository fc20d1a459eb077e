-- How much of memory a line asks for: a number and a letter.
use Rattle.std.specs.Prelude.{ℕ, ◌==◌, List, [], ◌∷◌, Option, None, Some, if◌then◌else◌}
use Rattle.mx_word.specs.Kinds.{is_digit}
use Rattle.mx_cmd.specs.Numerals.{front, past}
use Rattle.mx_ask.specs.Places.{count_in}
use Rattle.mx_ask.specs.declared.units.Unit.{Unit}
use Rattle.mx_ask.specs.declared.units.Unit.TheVariants.{Octa, Decimal, Tetra, Wyde, Byte, Text}

abbrev pub unit_of : ℕ → Option Unit
unit_of b =
    if b == 111 then Some Octa else if b == 100 then Some Decimal else if b == 116 then Some Tetra else if b == 119 then Some Wyde else if b == 98 then Some Byte
    else if b == 115 then Some Text else None

-- the unit of what follows the number: an octa where nothing does
abbrev pub rest_unit : List ℕ → Option Unit
rest_unit [] = Some Octa
rest_unit (b ∷ []) = unit_of b
rest_unit (b ∷ c ∷ rest) = None

abbrev pub both : Option ℕ → Option Unit → Option (ℕ × Unit)
both None unit = None
both (Some n) None = None
both (Some n) (Some unit) = Some (n, unit)

-- how many units are asked for, and of what: one where no number is written
unfoldable pub units_in : List ℕ → Option (ℕ × Unit)
units_in text = both (count_in (front is_digit text)) (rest_unit (past is_digit text))

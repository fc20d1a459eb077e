-- The condition of a break as a text: a value, a comparison, and a number.
use Rattle.std.specs.Prelude.{ℕ, ◌==◌, ◌||◌, not, Bool, List, Option, None, Some, bytes_eq, codes, if◌then◌else◌}
use Rattle.std.specs.Option.{option_and_then}
use Rattle.mx_cmd.specs.Numerals.{front, past}
use Rattle.mx_ask.specs.Lines.{first_word, trimmed}
use Rattle.mx_book.specs.declared.book.Book.{Book}
use Rattle.mx_stops.specs.declared.places.Place.{Place}
use Rattle.mx_stops.specs.declared.stops.Condition.{Condition}
use Rattle.mx_stops.specs.declared.stops.Relation.{Relation}
use Rattle.mx_stops.specs.declared.stops.Relation.TheVariants.{Equal, Unequal, Less, AtMost, Greater, AtLeast}
use Rattle.mx_places.specs.Named.{place_of, shown_thing, value_in}

-- ---- comparisons

-- the signs of a comparison
abbrev pub signs_of : Relation → List ℕ
signs_of Equal = codes "=="
signs_of Unequal = codes "!="
signs_of Less = codes "<"
signs_of AtMost = codes "<="
signs_of Greater = codes ">"
signs_of AtLeast = codes ">="

-- the comparison with these signs; a single `=` is one, too
abbrev pub relation_of : List ℕ → Option Relation
relation_of signs =
    if bytes_eq signs (codes "==") || bytes_eq signs (codes "=") then Some Equal
    else if bytes_eq signs (codes "!=") then Some Unequal
    else if bytes_eq signs (codes "<") then Some Less
    else if bytes_eq signs (codes "<=") then Some AtMost
    else if bytes_eq signs (codes ">") then Some Greater
    else if bytes_eq signs (codes ">=") then Some AtLeast
    else None

-- `=`, `!`, `<` and `>`
abbrev pub is_sign : ℕ → Bool
is_sign b = b == 61 || b == 33 || b == 60 || b == 62

abbrev pub is_no_sign : ℕ → Bool
is_no_sign b = not (is_sign b)

-- ---- conditions

abbrev pub condition_of : Option Relation → Option Place → Option ℕ → Option Condition
condition_of None place number = None
condition_of (Some relation) None number = None
condition_of (Some relation) (Some place) None = None
condition_of (Some relation) (Some place) (Some number) = Some (record { place = place; relation = relation; number = number })

-- what is in front of the signs, and what follows that
abbrev pub value_part : List ℕ → List ℕ
value_part text = trimmed (front is_no_sign text)

abbrev pub from_signs : List ℕ → List ℕ
from_signs text = past is_no_sign text

unfoldable pub condition_in : Book → List ℕ → Option Condition
condition_in book text =
    condition_of (relation_of (front is_sign (from_signs text))) (option_and_then place_of (shown_thing book (value_part text)))
    (value_in book (first_word (past is_sign (from_signs text))))

-- Breaks, and the conditions that they have.
use Rattle.std.specs.Prelude.{ℕ, ◌/◌, ◌&&◌, ◌==◌, not, Bool, true, int_lt, Option, None, Some}
use Rattle.mx_word.specs.Words.{signed_value}
use Rattle.mx_core.specs.State.{State}
use Rattle.mx_stops.specs.Places.{value_at}
use Rattle.mx_stops.specs.declared.stops.Break.{Break}
use Rattle.mx_stops.specs.declared.stops.Condition.{Condition}
use Rattle.mx_stops.specs.declared.stops.Relation.{Relation}
use Rattle.mx_stops.specs.declared.stops.Relation.TheVariants.{Equal, Unequal, Less, AtMost, Greater, AtLeast}

-- whether octas are so related, as signed numbers
abbrev pub compares : Relation → ℕ → ℕ → Bool
compares Equal x y = x == y
compares Unequal x y = not (x == y)
compares Less x y = int_lt (signed_value x) (signed_value y)
compares AtMost x y = not (int_lt (signed_value y) (signed_value x))
compares Greater x y = int_lt (signed_value y) (signed_value x)
compares AtLeast x y = not (int_lt (signed_value x) (signed_value y))

-- whether a condition holds, if there is one
abbrev pub holds : Option Condition → State → Bool
holds None s = true
holds (Some c) s = compares c.relation (value_at c.place s) c.number

-- whether a machine is at a break: the instruction there comes next, and the condition holds
abbrev pub is_met : State → Break → Bool
is_met s b = s.pc / 4 == b.address / 4 && holds b.condition s

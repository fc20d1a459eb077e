-- What a text names in a program: values, places in memory, and instructions.
use Rattle.std.specs.Prelude.{ℕ, ◌^◌, ◌&&◌, nat_le, nat_lt, List, Option, None, Some, if◌then◌else◌}
use Rattle.std.specs.Option.{option_and_then, option_map, option_or}
use Rattle.mx_word.specs.declared.symbols.Value.{Value}
use Rattle.mx_word.specs.declared.symbols.Value.TheVariants.{Pure, Reg}
use Rattle.mx_ask.specs.Places.{address_in, number_in, octa_in, subject_in}
use Rattle.mx_ask.specs.declared.units.Unit.{Unit}
use Rattle.mx_ask.specs.declared.units.Unit.TheVariants as units
use Rattle.mx_book.specs.Lookups.{address_of_line, symbol, thing}
use Rattle.mx_book.specs.Things.{thing_of}
use Rattle.mx_book.specs.declared.book.Book.{Book}
use Rattle.mx_book.specs.declared.loads.Load.{Load}
use Rattle.mx_book.specs.declared.things.Thing.{Thing}
use Rattle.mx_book.specs.declared.things.Thing.TheVariants as things
use Rattle.mx_cmd.specs.declared.command.Subject.{Subject}
use Rattle.mx_stops.specs.declared.places.Place.{Place}
use Rattle.mx_stops.specs.declared.places.Place.TheVariants as places
use Rattle.mx_places.specs.Sums.{base_in, bracketed, from_sum, offset_in, plus}
use Rattle.mx_places.specs.declared.places.Target.{Target}

-- ---- numbers

-- the number that a symbol means
abbrev pub pure : Value → Option ℕ
pure (Pure a) = Some a
pure (Reg k) = None

abbrev pub symbol_address : Book → List ℕ → Option ℕ
symbol_address book name = option_and_then pure (symbol book name)

-- what a sum of a symbol and a number is
abbrev pub symbol_sum : Book → List ℕ → Option ℕ
symbol_sum book text = plus (symbol_address book (base_in text)) (offset_in (from_sum text))

abbrev pub named_number : Book → List ℕ → Option ℕ
named_number book text = option_or (symbol_address book text) (symbol_sum book text)

-- the octa that a text writes, or the value of a symbol, or such a sum
unfoldable pub value_in : Book → List ℕ → Option ℕ
value_in book text = option_or (octa_in text) (named_number book text)

-- an address is written as one, or is such a number
abbrev pub address_named : Book → List ℕ → Option ℕ
address_named book text = option_or (address_in text) (named_number book text)

-- the unit of memory that a text writes in brackets, and its address
abbrev pub part_at : Book → Option (Unit × List ℕ) → Option (Unit × ℕ)
part_at book None = None
part_at book (Some (unit, text)) = option_map (λ a. (unit, a)) (address_named book text)

unfoldable pub part_in : Book → List ℕ → Option (Unit × ℕ)
part_in book text = part_at book (bracketed text)

-- ---- values

-- the octa of those units
abbrev pub octa_of : Option (Unit × ℕ) → Option Thing
octa_of None = None
octa_of (Some (units.Octa, a)) = Some (things.Octa a)
octa_of (Some (other, a)) = None

-- a register, a special register or an octa that is written as one; else a number, if it is one
abbrev pub written : Option Subject → Option ℕ → Option Thing
written None number = option_map things.Number number
written (Some subject) number = thing_of subject

abbrev pub thing_written : List ℕ → Option Thing
thing_written text = written (subject_in text) (octa_in text)

-- what a text writes that is no symbol: an octa in brackets, or one of those
abbrev pub thing_beside : Book → List ℕ → Option Thing
thing_beside book text = option_or (octa_of (part_in book text)) (thing_written text)

-- what a symbol means, or a sum of one
abbrev pub thing_by_symbol : Book → List ℕ → Option Thing
thing_by_symbol book text = option_or (thing book text) (option_map things.Number (symbol_sum book text))

-- what a text names: a symbol comes before all else
unfoldable pub named_thing : Book → List ℕ → Option Thing
named_thing book text = option_or (thing_by_symbol book text) (thing_beside book text)

-- a symbol whose value is an address of data means the octa there
abbrev pub as_data : Thing → Thing
as_data (things.Number a) = if nat_le (2 ^ 61) a && nat_lt a (2 ^ 63) then things.Octa a else things.Number a
as_data (things.Register k) = things.Register k
as_data (things.Special code) = things.Special code
as_data (things.Octa a) = things.Octa a

unfoldable pub shown_thing : Book → List ℕ → Option Thing
shown_thing book text = option_or (option_map as_data (thing_by_symbol book text)) (thing_beside book text)

-- ---- places

-- the octa at an address; none has an address of 2^63 or more
abbrev pub octa_at : ℕ → Option Place
octa_at a = if nat_lt a (2 ^ 63) then Some (places.Octa a) else None

-- a number is an address
abbrev pub place_of : Thing → Option Place
place_of (things.Register k) = Some (places.Register k)
place_of (things.Special code) = Some (places.Special code)
place_of (things.Octa a) = octa_at a
place_of (things.Number a) = octa_at a

unfoldable pub place_in : Book → List ℕ → Option Place
place_in book text = option_and_then place_of (named_thing book text)

-- and back; a register has the number that it had where it was asked for
abbrev pub thing_at : Place → Thing
thing_at (places.Register k) = things.Register k
thing_at (places.Stacked at number) = things.Register number
thing_at (places.Octa a) = things.Octa a
thing_at (places.Special code) = things.Special code

-- ---- instructions

abbrev pub at_address : ℕ → Target
at_address a = record { address = a; line = None }

abbrev pub at_load : Load → Target
at_load l = record { address = l.address; line = Some l.line }

-- the first instruction from a line on; lines have numbers below 2^32
abbrev pub at_line : Book → ℕ → Option Target
at_line book line = if nat_lt line (2 ^ 32) then option_map at_load (address_of_line book line) else None

-- a number is that of a line; an address is written as one, or is the value of a symbol, or a sum of one
abbrev pub by_number : Option ℕ → Book → List ℕ → Option Target
by_number (Some line) book text = at_line book line
by_number None book text = option_map at_address (address_named book text)

unfoldable pub target_in : Book → List ℕ → Option Target
target_in book text = by_number (number_in text) book text

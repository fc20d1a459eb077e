-- What a text names in a state: a register with a number added or taken away, too, as in `$253-12`.
use Rattle.std.specs.Prelude.{ℕ, List, Option, None, Some}
use Rattle.std.specs.Option.{option_map, option_or}
use Rattle.mx_core.specs.State.{State}
use Rattle.mx_book.specs.declared.book.Book.{Book}
use Rattle.mx_book.specs.declared.things.Thing.{Thing}
use Rattle.mx_book.specs.declared.things.Thing.TheVariants as things
use Rattle.mx_stops.specs.declared.places.Place.TheVariants as places
use Rattle.mx_stops.specs.Places.{value_at}
use Rattle.mx_places.specs.Named.{named_thing, shown_thing}
use Rattle.mx_places.specs.Sums.{base_in, from_sum, offset_in, plus}

-- what a register has
abbrev pub held : State → Option Thing → Option ℕ
held s None = None
held s (Some (things.Register k)) = Some (value_at (places.Register k) s)
held s (Some (things.Special code)) = None
held s (Some (things.Octa a)) = None
held s (Some (things.Number n)) = None

abbrev pub register_sum : Book → State → List ℕ → Option ℕ
register_sum book s text = plus (held s (named_thing book (base_in text))) (offset_in (from_sum text))

abbrev pub number_now : Book → State → List ℕ → Option Thing
number_now book s text = option_map things.Number (register_sum book s text)

unfoldable pub named_now : Book → State → List ℕ → Option Thing
named_now book s text = option_or (number_now book s text) (named_thing book text)

unfoldable pub shown_now : Book → State → List ℕ → Option Thing
shown_now book s text = option_or (number_now book s text) (shown_thing book text)

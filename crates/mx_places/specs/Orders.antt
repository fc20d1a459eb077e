-- The break that a line orders: its address, and its condition, if there is one.
use Rattle.std.specs.Prelude.{ℕ, List, [], ◌∷◌, Option, None, Some, Result, Ok, Err, bytes_eq, codes, if◌then◌else◌}
use Rattle.mx_ask.specs.Lines.{after_word, first_word}
use Rattle.mx_book.specs.declared.book.Book.{Book}
use Rattle.mx_stops.specs.declared.stops.Condition.{Condition}
use Rattle.mx_places.specs.Conditions.{condition_in}
use Rattle.mx_places.specs.Named.{target_in}
use Rattle.mx_places.specs.declared.orders.Unwanted.{Unwanted}
use Rattle.mx_places.specs.declared.orders.Unwanted.TheVariants as lacks
use Rattle.mx_places.specs.declared.orders.Wanted.{Wanted}
use Rattle.mx_places.specs.declared.places.Target.{Target}

-- a condition is written after the word `if`
abbrev pub condition_after : Book → List ℕ → Option Condition
condition_after book text = if bytes_eq (first_word text) (codes "if") then condition_in book (after_word text) else None

abbrev pub condition_if : Option Condition → Result (Option Condition) Unwanted
condition_if None = Err lacks.Condition
condition_if (Some condition) = Ok (Some condition)

abbrev pub wanted_condition : Book → List ℕ → Result (Option Condition) Unwanted
wanted_condition book [] = Ok None
wanted_condition book (b ∷ bs) = condition_if (condition_after book (b ∷ bs))

abbrev pub address_if : Option Target → Result ℕ Unwanted
address_if None = Err lacks.Target
address_if (Some target) = Ok target.address

-- where nothing is written, the instruction that comes next
abbrev pub wanted_address : Book → ℕ → List ℕ → Result ℕ Unwanted
wanted_address book pc [] = Ok pc
wanted_address book pc (b ∷ bs) = address_if (target_in book (b ∷ bs))

abbrev pub with_condition : ℕ → Result (Option Condition) Unwanted → Result Wanted Unwanted
with_condition address (Ok condition) = Ok (record { address = address; condition = condition })
with_condition address (Err why) = Err why

abbrev pub at_address : Result ℕ Unwanted → Result (Option Condition) Unwanted → Result Wanted Unwanted
at_address (Ok address) condition = with_condition address condition
at_address (Err why) condition = Err why

unfoldable pub wanted_in : Book → ℕ → List ℕ → Result Wanted Unwanted
wanted_in book pc text = at_address (wanted_address book pc (first_word text)) (wanted_condition book (after_word text))

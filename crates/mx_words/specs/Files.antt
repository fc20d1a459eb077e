-- What follows the options, as the code reads it.
use Rattle.std.specs.Prelude.{ℕ, List, [], ◌∷◌, Err}
use Rattle.mx_words.specs.Values.{Word, blocks_value}
use Rattle.mx_words.specs.Orders.{Ordered, fault, file_at, blocks_at}
use Rattle.mx_words.specs.declared.order.Command.{Command}
use Rattle.mx_words.specs.declared.settings.Settings.{Settings}

-- the file of a command, which begins the words from a place on
abbrev pub after_options : Command → Settings → ℕ → List Word → Ordered
after_options c s place [] = Err (fault 7 place)
after_options c s place (word ∷ words) = file_at c s place word words

-- the N of `gen`, which begins the words from a place on
abbrev pub blocks_after : Settings → ℕ → List Word → Ordered
blocks_after s place [] = Err (fault 7 place)
blocks_after s place (word ∷ words) = blocks_at s place (blocks_value word) words

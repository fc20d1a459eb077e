-- One option as the code reads it; the law that joins it to the orders is in `proofs/ReadOptions`.
use Rattle.std.specs.Prelude.{ℕ, ◌+◌, Bool, List, [], ◌∷◌, Result, Ok, Err, if◌then◌else◌}
use Rattle.mx_words.specs.Values.{Word, ring_value, steps_value, last_value}
use Rattle.mx_words.specs.Orders.{fault, is_console, is_report, is_last, is_dump, is_ring, is_steps, with_console, with_report, with_last, with_dump, with_ring, with_steps, console_clashes, report_clashes, last_clashes}
use Rattle.mx_words.specs.declared.order.Command.{Command}
use Rattle.mx_words.specs.declared.order.WordsFault.{WordsFault}
use Rattle.mx_words.specs.declared.settings.Settings.{Settings}

-- the settings, and the place of the next word
abbrev pub Read : Type 0
Read = Result (Settings × ℕ) WordsFault

-- a value at a place, with what it sets
abbrev pub set : Result ℕ ℕ → ℕ → (ℕ → Settings) → Read
set (Err kind) place with_value = Err (fault kind place)
set (Ok n) place with_value = Ok (with_value n, place + 1)

-- the value of an option: the first of the words after it
abbrev pub value_read : (Word → Result ℕ ℕ) → (ℕ → Settings) → ℕ → List Word → Read
value_read value with_value place [] = Err (fault 4 place)
value_read value with_value place (word ∷ words) = set (value word) place with_value

-- the values of `--ring`, of `--steps` and of `--last`, the first of the words at a place
abbrev pub ring_read : Settings → ℕ → List Word → Read
ring_read s place words = value_read ring_value (with_ring s) place words

abbrev pub steps_read : Settings → ℕ → List Word → Read
steps_read s place words = value_read steps_value (with_steps s) place words

abbrev pub last_read : Settings → ℕ → List Word → Read
last_read s place words = value_read last_value (with_last s) place words

-- `-i`, `--report` and `--last` at a place, the last with the words after it: one is not after another
abbrev pub set_unless : Bool → ℕ → Settings → Read
set_unless clashes place s = if clashes then Err (fault 10 place) else Ok (s, place + 1)

abbrev pub console_read : Settings → ℕ → Read
console_read s place = set_unless (console_clashes s) place (with_console s)

abbrev pub report_read : Settings → ℕ → Read
report_read s place = set_unless (report_clashes s) place (with_report s)

abbrev pub back_read : Settings → ℕ → List Word → Read
back_read s place words = if last_clashes s then Err (fault 10 place) else last_read s (place + 1) words

-- the option at a place, with the words after it
abbrev pub option_read : Command → Settings → ℕ → Word → List Word → Read
option_read c s place word words =
    if is_console c word then console_read s place
    else if is_report c word then report_read s place
    else if is_last c word then back_read s place words
    else if is_dump c word then Ok (with_dump s, place + 1)
    else if is_ring c word then ring_read s (place + 1) words
    else if is_steps c word then steps_read s (place + 1) words
    else Err (fault 3 place)

-- the option at a place, which begins the words from there on
abbrev pub option_at : Command → Settings → ℕ → List Word → Read
option_at c s place [] = Err (fault 3 place)
option_at c s place (word ∷ words) = option_read c s place word words

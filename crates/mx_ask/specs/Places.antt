-- Numbers, addresses and places as a line writes them.
use Rattle.std.specs.Prelude.{ℕ, ◌-◌, ◌%◌, ◌^◌, ◌==◌, List, [], ◌∷◌, Option, None, Some, if◌then◌else◌}
use Rattle.mx_word.specs.Kinds.{is_digit, is_hexadecimal}
use Rattle.mx_cmd.specs.Commands.{command_of}
use Rattle.mx_cmd.specs.Numerals.{value_written}
use Rattle.mx_cmd.specs.declared.command.Command.{Command}
use Rattle.mx_cmd.specs.declared.command.Command.TheVariants as command
use Rattle.mx_cmd.specs.declared.command.Subject.{Subject}

-- one answer of two: that there is none, or that it is out of range, counts alike
abbrev pub joined : Option (Option ℕ) → Option ℕ
joined None = None
joined (Some n) = n

-- the number that decimal digits write, one digit or more, below 2^64
unfoldable pub number_in : List ℕ → Option ℕ
number_in text = joined (value_written 10 is_digit text)

-- how often something is done: once where nothing is written
unfoldable pub count_in : List ℕ → Option ℕ
count_in [] = Some 1
count_in (b ∷ bs) = number_in (b ∷ bs)

-- the address that `#` and hexadecimal digits write
unfoldable pub address_in : List ℕ → Option ℕ
address_in [] = None
address_in (b ∷ bs) = if b == 35 then joined (value_written 16 is_hexadecimal bs) else None

-- the octa that decimal digits write, digits after a minus sign, or `#` and hexadecimal digits
abbrev pub negated : Option ℕ → Option ℕ
negated None = None
negated (Some n) = Some ((2 ^ 64 - n) % 2 ^ 64)

unfoldable pub octa_in : List ℕ → Option ℕ
octa_in [] = None
octa_in (b ∷ bs) =
    if b == 45 then negated (number_in bs)
    else if b == 35 then joined (value_written 16 is_hexadecimal bs)
    else number_in (b ∷ bs)

-- `$K`, `gK`, `rX` and `M#ADDRESS`, as the console writes them
abbrev pub subject_of : Option Command → Option Subject
subject_of None = None
subject_of (Some (command.Show subject form)) = Some subject
subject_of (Some other) = None

unfoldable pub subject_in : List ℕ → Option Subject
subject_in text = subject_of (command_of text)

-- Words, and the values that options take.
-- A rule of this program.
use Rattle.std.specs.Prelude.{ℕ, ◌^◌, Bool, false, ◌==◌, ◌&&◌, nat_le, List, [], ◌∷◌, length, Option, None, Some, Result, Ok, Err, if◌then◌else◌}
use Rattle.std.specs.List.{list_all}
use Rattle.std.specs.Str.Parse.{digits_value}
use Rattle.mx_word.specs.Kinds.{is_digit}
use Rattle.mx_registers.specs.RingSizes.{ring_size_of}

-- a word is the list of its bytes
abbrev pub Word : Type 0
Word = List ℕ

-- a word that begins with a dash
abbrev pub is_option : Word → Bool
is_option [] = false
is_option (b ∷ bs) = b == 45

-- 1 to 13 decimal digits
abbrev pub is_number : Word → Bool
is_number word = nat_le 1 (length word) && nat_le (length word) 13 && list_all is_digit word

-- the number that a word writes in decimal digits
abbrev pub number_of : Word → Option ℕ
number_of word = if is_number word then Some (digits_value 10 word) else None

-- a number from 1 to a greatest one; otherwise the kind of the fault
abbrev pub up_to : ℕ → Option ℕ → Result ℕ ℕ
up_to most None = Err 5
up_to most (Some n) = if nat_le 1 n && nat_le n most then Ok n else Err 5

-- a size of the ring; otherwise the kind of the fault
abbrev pub size : Option ℕ → Result ℕ ℕ
size None = Err 6
size (Some registers) = Ok registers

abbrev pub ring_size : Option ℕ → Result ℕ ℕ
ring_size None = Err 5
ring_size (Some n) = size (ring_size_of n)

-- the value of `--ring`
abbrev pub ring_value : Word → Result ℕ ℕ
ring_value word = ring_size (number_of word)

-- the value of `--steps`, up to 10^12
abbrev pub steps_value : Word → Result ℕ ℕ
steps_value word = up_to (10 ^ 12) (number_of word)

-- the value of `--last`, up to 1,024
abbrev pub last_value : Word → Result ℕ ℕ
last_value word = up_to 1024 (number_of word)

-- the N of `gen`, up to 10,000
abbrev pub blocks_value : Word → Result ℕ ℕ
blocks_value word = up_to 10000 (number_of word)

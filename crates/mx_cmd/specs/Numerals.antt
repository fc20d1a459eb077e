-- Numbers as a line of the console writes them.
-- A rule of this program.
use Rattle.std.specs.Prelude.{ℕ, ◌+◌, ◌-◌, ◌*◌, ◌^◌, ◌%◌, ◌==◌, nat_le, nat_lt, Bool, if◌then◌else◌, List, [], ◌∷◌, length, drop, fold, take_while, Option, None, Some}
use Rattle.std.specs.List.{list_all}
use Rattle.mx_word.specs.Kinds.{is_digit, is_hexadecimal}

-- the longest front of bytes of a kind, and what follows it
abbrev pub front : (ℕ → Bool) → List ℕ → List ℕ
front kind text = take_while kind text

abbrev pub past : (ℕ → Bool) → List ℕ → List ℕ
past kind text = drop (length (front kind text)) text

-- what a digit counts: `a` to `f` and `A` to `F` count 10 to 15
abbrev pub digit_value : ℕ → ℕ
digit_value b = if is_digit b then b - 48 else if nat_le 97 b then b - 87 else b - 55

-- a number with one more digit
abbrev pub with_digit : ℕ → ℕ → ℕ → ℕ
with_digit base n b = n * base + digit_value b

-- the number that digits write
abbrev pub numeral_value : ℕ → List ℕ → ℕ
numeral_value base digits = fold (with_digit base) 0 digits

-- a number below a bound; otherwise nothing
abbrev pub below : ℕ → ℕ → Option ℕ
below bound n = if nat_lt n bound then Some n else None

-- the octa that digits write; nothing where the number is 2^64 or more
unfoldable pub octa_written : ℕ → List ℕ → Option ℕ
octa_written base digits = below (2 ^ 64) (numeral_value base digits)

-- VALUES: decimal digits, a minus sign and decimal digits, or `#` and hexadecimal ones, of which there is one or more.
-- The first nothing means a text of another form, the second for a number that is out of range.

abbrev pub value_written : ℕ → (ℕ → Bool) → List ℕ → Option (Option ℕ)
value_written base kind [] = None
value_written base kind (b ∷ bs) = if list_all kind (b ∷ bs) then Some (octa_written base (b ∷ bs)) else None

-- -n modulo 2^64, for n up to 2^63
abbrev pub minus : Option ℕ → Option ℕ
minus None = None
minus (Some n) = if nat_le n (2 ^ 63) then Some ((2 ^ 64 - n) % 2 ^ 64) else None

abbrev pub minus_written : Option (Option ℕ) → Option (Option ℕ)
minus_written None = None
minus_written (Some n) = Some (minus n)

abbrev pub value_of : List ℕ → Option (Option ℕ)
value_of [] = None
value_of (b ∷ bs) =
    if b == 45 then minus_written (value_written 10 is_digit bs)
    else if b == 35 then value_written 16 is_hexadecimal bs
    else value_written 10 is_digit (b ∷ bs)

-- ADDRESSES: `#` or none, and 1 to 16 hexadecimal digits, which are an octa

abbrev pub without_hash : List ℕ → List ℕ
without_hash [] = []
without_hash (b ∷ bs) = if b == 35 then bs else b ∷ bs

abbrev pub address_written : List ℕ → Option ℕ
address_written [] = None
address_written (b ∷ bs) = if nat_le (length (b ∷ bs)) 16 then octa_written 16 (b ∷ bs) else None

-- the address at the front of a text, and what follows it
abbrev pub address_in : List ℕ → Option ℕ
address_in text = address_written (front is_hexadecimal (without_hash text))

abbrev pub past_address : List ℕ → List ℕ
past_address text = past is_hexadecimal (without_hash text)

-- the address that a text is
abbrev pub if_empty : List ℕ → Option ℕ → Option ℕ
if_empty [] address = address
if_empty (b ∷ bs) address = None

unfoldable pub address_of : List ℕ → Option ℕ
address_of text = if_empty (past_address text) (address_in text)

-- How a writer spells values and serial numbers in a trie: in the fewest bytes, at least one (MMIXware, MMIXAL,
-- "Binary MMO output", the symbol table).
use Rattle.std.specs.Prelude.{ℕ, ◌+◌, ◌-◌, ◌/◌, ◌%◌, ◌^◌, ◌==◌, Bool, ◌&&◌, nat_le, nat_lt, List, [], ◌∷◌, length, if◌then◌else◌}
use Rattle.mx_word.specs.Words.{octa_to_bytes}
use Rattle.mx_word.specs.declared.symbols.Value.{Value}
use Rattle.mx_word.specs.declared.symbols.Value.TheVariants.{Pure, Reg}

-- digits without the zeros in front; the last digit stays
abbrev pub fewest_digits : List ℕ → List ℕ
fewest_digits [] = []
fewest_digits (d ∷ []) = d ∷ []
fewest_digits (d ∷ e ∷ more) = if d == 0 then fewest_digits (e ∷ more) else d ∷ e ∷ more

-- whether a pure value is told by what it exceeds 2^61 by
abbrev pub is_offset : ℕ → Bool
is_offset x = nat_le (2 ^ 61) x && nat_lt x (2 ^ 61 + 2 ^ 48)

-- the bytes of an octa from the high end, as few as tell it
abbrev pub octa_digits : ℕ → List ℕ
octa_digits x = fewest_digits (octa_to_bytes x)

-- the bytes of a value
abbrev pub value_bytes : Value → List ℕ
value_bytes (Pure x) = if is_offset x then octa_digits (x - 2 ^ 61) else octa_digits x
value_bytes (Reg k) = k ∷ []

-- the kind of a value: how many bytes tell it, and 8 more where they tell what exceeds 2^61; 15 for a register
abbrev pub kind : Value → ℕ
kind (Pure x) = if is_offset x then 8 + length (octa_digits (x - 2 ^ 61)) else length (octa_digits x)
kind (Reg k) = 15

-- a serial number in base 128 from the high end; #80 is added to its last digit
abbrev pub serial_bytes : ℕ → List ℕ
serial_bytes x =
    fewest_digits ((x / 2 ^ 28) ∷ (x / 2 ^ 21 % 128) ∷ (x / 2 ^ 14 % 128) ∷ (x / 2 ^ 7 % 128) ∷ (x % 128 + 128) ∷ [])

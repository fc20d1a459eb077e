-- The kinds of bytes of the source language (MMIXware, MMIXAL, "The symbol table": letters and digits).
use Rattle.std.specs.Prelude.{ℕ, Bool, ◌==◌, ◌&&◌, ◌||◌, nat_le, nat_lt}

-- a decimal digit: `0` to `9`
abbrev pub is_digit : ℕ → Bool
is_digit b = nat_le 48 b && nat_le b 57

-- a hexadecimal digit: a decimal one, `a` to `f` or `A` to `F`
abbrev pub is_hexadecimal : ℕ → Bool
is_hexadecimal b = is_digit b || (nat_le 97 b && nat_le b 102) || (nat_le 65 b && nat_le b 70)

-- a letter: `A` to `Z`, `a` to `z`, `:`, `_` or a byte above 126
abbrev pub is_letter : ℕ → Bool
is_letter b = (nat_le 65 b && nat_le b 90) || (nat_le 97 b && nat_le b 122) || b == 58 || b == 95 || nat_lt 126 b

-- a byte of a name: a letter or a digit
abbrev pub is_name_byte : ℕ → Bool
is_name_byte b = is_letter b || is_digit b

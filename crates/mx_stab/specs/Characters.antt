-- The characters of names that take two bytes in a trie (MMIXware, MMIXAL, "Binary MMO output", the symbol table).
use Rattle.std.specs.Prelude.{ℕ, ◌+◌, ◌*◌, Bool, ◌&&◌, ◌||◌, nat_le, nat_lt, Option, Some, None, if◌then◌else◌}

-- the number of a character of two bytes, high byte first
abbrev pub wide_number : ℕ → ℕ → ℕ
wide_number high low = high * 256 + low

-- whether a number is a character of two bytes: those below #80 take one, and from #d800 to #dfff are surrogates
abbrev pub is_wide_character : ℕ → Bool
is_wide_character code = nat_le 0x80 code && (nat_lt code 0xd800 || nat_le 0xe000 code)

-- the character of a number
abbrev pub wide_character : ℕ → Option ℕ
wide_character code = if is_wide_character code then Some code else None

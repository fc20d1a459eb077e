-- What hexadecimal digits count, and the bytes of strings.
-- (MMIXware, the part on MMIXAL: constants and strings; TAOCP 1, Fascicle 1, section 1.3.2'.)
use Rattle.std.specs.Prelude.{ℕ, ◌-◌, Bool, not, ◌==◌, ◌&&◌, nat_le, if◌then◌else◌}
pub use Rattle.mx_word.specs.Kinds.{is_digit, is_hexadecimal, is_letter, is_name_byte}

-- what a digit counts: `a` to `f` and `A` to `F` count 10 to 15
abbrev pub digit_value : ℕ → ℕ
digit_value b = if is_digit b then b - 48 else if nat_le 97 b && nat_le b 102 then b - 87 else b - 55

abbrev pub is_no_quote : ℕ → Bool
is_no_quote b = not (b == 34)

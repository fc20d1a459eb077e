-- Blanks, and runs of bytes of a kind.
-- (MMIXware, the part on MMIXAL: the form of a line; TAOCP 1, Fascicle 1, section 1.3.2'.)
use Rattle.std.specs.Prelude.{ℕ, List, length, drop, Bool, ◌==◌, ◌||◌, take_while}
pub use Rattle.mx_word.specs.Kinds.{is_digit, is_letter, is_name_byte}

abbrev pub is_blank : ℕ → Bool
is_blank b = b == 9 || b == 11 || b == 12 || b == 13 || b == 32

-- the bytes of a kind at the front of a text, and what follows them
abbrev pub run : (ℕ → Bool) → List ℕ → List ℕ
run kind text = take_while kind text

abbrev pub past : (ℕ → Bool) → List ℕ → List ℕ
past kind text = drop (length (run kind text)) text

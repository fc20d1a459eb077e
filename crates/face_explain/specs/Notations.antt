-- What is said of Main, of @, and of local labels, which are no rows of the table.
use Rattle.std.specs.Prelude.{ℕ, ◌==◌, ◌&&◌, ◌||◌, Bool, false, List, [], ◌∷◌, if◌then◌else◌, codes}
use Rattle.std.specs.Str.{bytes_eq}
use Rattle.mx_word.specs.Kinds.{is_digit}

abbrev pub is_main : List ℕ → Bool
is_main word = bytes_eq word (codes "Main") || bytes_eq word (codes "main")

-- a digit, and 66 is B, 70 F and 72 H
abbrev pub is_local : List ℕ → Bool
is_local (d ∷ b ∷ []) = is_digit d && (b == 66 || b == 70 || b == 72)
is_local word = false

unfoldable pub main_says : List ℕ
main_says = codes "A program starts at the label Main. It is written in the first column, in\n  front of the first instruction that runs, with a capital and without a colon.\n  Under a PREFIX it is :Main."

unfoldable pub here_says : List ℕ
here_says = codes "The address of the statement in which it is, where its first byte is placed.\n  LOC changes it: LOC #100. GREG @ in front of data makes a base for them."

unfoldable pub local_says : List ℕ
local_says = codes "A local label. 1H in front of a statement labels it, with any digit for 1,\n  and may be there again and again. 1F in an operand is the next 1H after the\n  statement, and 1B the last one before it."

-- no text of another word
unfoldable pub notation_of : List ℕ → List ℕ
notation_of word =
    if is_main word then main_says else if bytes_eq word (codes "@") then here_says else if is_local word then local_says else []

-- What is below a line: a blank or a tab under each character in front of the marked text, and marks under this. A rule of this
-- program.
use Rattle.std.specs.Prelude.{ℕ, zero, suc, ◌+◌, ◌-◌, ◌==◌, List, [], ◌∷◌, ◌++◌, take, drop, if◌then◌else◌, Option, None, Some, codes}
use Rattle.std.specs.Str.{continuation_len, is_utf8}
use Rattle.mx_marks.specs.Fields.{Line}

-- how many bytes the first character of a text has: those that its first byte announces, if they are UTF-8, or that byte alone
unfoldable pub char_length : List ℕ → ℕ
char_length [] = 0
char_length (b ∷ bs) = if is_utf8 (take (continuation_len b + 1) (b ∷ bs)) then continuation_len b + 1 else 1

-- a tab is under a tab, and a blank under each other character
abbrev pub under : ℕ → ℕ
under b = if b == 9 then 9 else 32

-- under the characters of a text, whose first n bytes belong to a character before them
unfoldable pub under_after : ℕ → List ℕ → List ℕ
under_after n [] = []
under_after (suc n) (b ∷ bs) = under_after n bs
under_after zero (b ∷ bs) = under b ∷ under_after (char_length (b ∷ bs) - 1) bs

abbrev pub under_text : List ℕ → List ℕ
under_text text = under_after 0 text

-- a tilde under each character of a text, whose first n bytes belong to a character before them
unfoldable pub tildes_after : ℕ → List ℕ → List ℕ
tildes_after n [] = []
tildes_after (suc n) (b ∷ bs) = tildes_after n bs
tildes_after zero (b ∷ bs) = 126 ∷ tildes_after (char_length (b ∷ bs) - 1) bs

-- under the characters after the first one
abbrev pub tildes : List ℕ → List ℕ
tildes text = tildes_after 0 (drop (char_length text) text)

-- below a line, after what is under the bytes in front of the marked text, which has this many bytes
abbrev pub marks_text : Line → Option ℕ → ℕ → List ℕ
marks_text line (Some place) count =
    codes "    " ++ under_text (take place line) ++ codes "^" ++ tildes (take count (drop place line)) ++ codes "\n"
marks_text line None count = []

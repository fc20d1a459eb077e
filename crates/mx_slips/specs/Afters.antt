-- An operator after the blank that ends the operands: `x IS 5 * 8` is 5, and `BYTE 1 ,2` is one byte. A comment is told from operands
-- so: exactly one blank comes before the operator and one or more after it (none need follow a comma); then a number, a register or a
-- character constant; and then the end of the line, an operator, a comma or `;`.
use Rattle.std.specs.Prelude.{ℕ, ◌+◌, ◌==◌, ◌&&◌, ◌||◌, List, [], ◌∷◌, length, drop, Bool, true, false, nat_lt, if◌then◌else◌, Option, None, Some}
use Rattle.mx_word.specs.Kinds.{is_digit, is_hexadecimal}
use Rattle.mx_line.specs.Bytes.{is_blank, run, past}
use Rattle.mx_slips.specs.declared.sources.Statement.{Statement}
use Rattle.mx_slips.specs.declared.marks.Mark.{Mark}
use Rattle.mx_slips.specs.Marks.{mark_of}

-- an operator of one byte: + - * / % & | ^
abbrev pub is_operator : ℕ → Bool
is_operator b = b == 43 || b == 45 || b == 42 || b == 47 || b == 37 || b == 38 || b == 124 || b == 94

-- what begins two operators of two bytes, and one more: // << >>
abbrev pub is_doubled : ℕ → Bool
is_doubled b = b == 47 || b == 60 || b == 62

abbrev pub begins_with : ℕ → List ℕ → Bool
begins_with c [] = false
begins_with c (b ∷ bs) = b == c

-- how many bytes the operator at the front of a text has, and 0 where there is none
abbrev pub operator_length : List ℕ → ℕ
operator_length [] = 0
operator_length (b ∷ bs) =
    if is_doubled b && begins_with b bs then 2
    else if is_operator b then 1
    else 0

-- digits with a sign before them: none are no number
abbrev pub signed_length : ℕ → ℕ
signed_length n = if n == 0 then 0 else n + 1

-- a character constant, by what follows its apostrophe
abbrev pub constant_length : List ℕ → ℕ
constant_length bytes = if begins_with 39 (drop 1 bytes) then 3 else 0

-- how many bytes the operand at the front of a text has: a number, a register or a character constant; 0 where there is none
abbrev pub operand_length : List ℕ → ℕ
operand_length [] = 0
operand_length (b ∷ bs) =
    if is_digit b then length (run is_digit (b ∷ bs))
    else if b == 35 then signed_length (length (run is_hexadecimal bs))
    else if b == 36 then signed_length (length (run is_digit bs))
    else if b == 39 then constant_length bs
    else 0

-- whether nothing follows but what may follow an operand
abbrev pub ends_operand : List ℕ → Bool
ends_operand [] = true
ends_operand (b ∷ bs) = is_operator b || b == 44 || b == 59

abbrev pub ends_after : ℕ → List ℕ → Bool
ends_after n text = nat_lt 0 n && ends_operand (past is_blank (drop n text))

abbrev pub begins_operand : List ℕ → Bool
begins_operand text = ends_after (operand_length text) text

abbrev pub begins_blank : List ℕ → Bool
begins_blank [] = false
begins_blank (b ∷ bs) = is_blank b

-- what follows an operator of this many bytes
abbrev pub continues_after : ℕ → List ℕ → Bool
continues_after n text = nat_lt 0 n && begins_blank (drop n text) && begins_operand (past is_blank (drop n text))

-- what follows the blank
abbrev pub continues : List ℕ → Bool
continues text =
    if begins_with 44 text then begins_operand (past is_blank (drop 1 text))
    else continues_after (operator_length text) text

-- what follows the operands
abbrev pub goes_on : List ℕ → Bool
goes_on text = begins_with 32 text && continues (drop 1 text)

-- the blank and all that follows it
unfoldable pub operator_after_blank : Statement → Option Mark
operator_after_blank s = if goes_on s.rest.text then Some (mark_of s.rest.from s.rest.text 0) else None

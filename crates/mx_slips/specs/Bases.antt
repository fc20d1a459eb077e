-- GREG that makes a register of 0 where a base was meant. Either it has no label, its operand is missing or 0, and the next
-- statement is data with a label. Or it has a label and no operand, loads or stores have this register as their second operand, and
-- it is no first operand, so nothing gives it another value.
use Rattle.std.specs.Prelude.{ℕ, ◌==◌, ◌&&◌, ◌||◌, drop, List, [], ◌∷◌, Bool, true, false, not, nat_lt, is_some, codes, if◌then◌else◌, Option, None, Some}
use Rattle.std.specs.List.{find, list_any}
use Rattle.std.specs.Str.{bytes_eq}
use Rattle.mx_slips.specs.declared.pieces.Piece.{Piece}
use Rattle.mx_slips.specs.declared.sources.SourceLine.{SourceLine}
use Rattle.mx_slips.specs.declared.sources.Statement.{Statement}
use Rattle.mx_slips.specs.declared.tokens.Token.{Token}
use Rattle.mx_slips.specs.declared.marks.Mark.{Mark}
use Rattle.mx_slips.specs.Operations.{is_data_operation}
use Rattle.mx_slips.specs.Marks.{mark_of}

abbrev pub is_greg : Statement → Bool
is_greg s = bytes_eq s.op.text (codes "GREG")

-- no operand, or 0
abbrev pub is_zero : List Token → Bool
is_zero [] = true
is_zero (t ∷ []) = bytes_eq t.text (codes "0")
is_zero tokens = false

abbrev pub is_bare_greg : Statement → Bool
is_bare_greg s = is_greg s && not (is_some s.label) && is_zero s.tokens

-- the first line after the one with this number that has a statement
abbrev pub is_next : ℕ → List Statement → ℕ → Bool
is_next number [] other = false
is_next number (s ∷ more) other = nat_lt number other

abbrev pub is_statement_after : ℕ → SourceLine → Bool
is_statement_after number line = is_next number line.statements line.number

abbrev pub next_line : List SourceLine → ℕ → Option SourceLine
next_line lines number = find (is_statement_after number) lines

-- whether its first statement is data with a label
abbrev pub begins_data : List Statement → Bool
begins_data [] = false
begins_data (s ∷ more) = is_data_operation s.op.text && is_some s.label

abbrev pub is_before_data : Option SourceLine → Bool
is_before_data None = false
is_before_data (Some line) = begins_data line.statements

abbrev pub precedes_data : List SourceLine → ℕ → Statement → Bool
precedes_data lines number s = is_bare_greg s && is_before_data (next_line lines number)

-- ---- a register of 0 as the second operand

abbrev pub first_is : List ℕ → List Token → Bool
first_is name [] = false
first_is name (t ∷ more) = bytes_eq t.text name

abbrev pub sets : List ℕ → Statement → Bool
sets name s = first_is name s.tokens

abbrev pub line_sets : List ℕ → SourceLine → Bool
line_sets name line = list_any (sets name) line.statements

-- a comma and then the name; the first operand is one token, or `$` and a number
abbrev pub second_is : List ℕ → List Token → Bool
second_is name (comma ∷ t ∷ more) = bytes_eq comma.text (codes ",") && bytes_eq t.text name
second_is name tokens = false

abbrev pub is_based : List ℕ → List Token → Bool
is_based name [] = false
is_based name (t ∷ more) = second_is name more || second_is name (drop 1 more)

-- LD.. or ST..
abbrev pub is_access : List ℕ → Bool
is_access (a ∷ b ∷ more) = (a == 76 && b == 68) || (a == 83 && b == 84)
is_access op = false

abbrev pub bases : List ℕ → Statement → Bool
bases name s = is_access s.op.text && is_based name s.tokens

abbrev pub line_bases : List ℕ → SourceLine → Bool
line_bases name line = list_any (bases name) line.statements

abbrev pub is_zero_base : List SourceLine → Option Piece → Bool
is_zero_base lines None = false
is_zero_base lines (Some label) = list_any (line_bases label.text) lines && not (list_any (line_sets label.text) lines)

abbrev pub has_tokens : List Token → Bool
has_tokens [] = false
has_tokens (t ∷ more) = true

abbrev pub makes_zero_base : List SourceLine → Statement → Bool
makes_zero_base lines s = is_greg s && not (has_tokens s.tokens) && is_zero_base lines s.label

unfoldable pub greg_of_zero : List SourceLine → SourceLine → Statement → Option Mark
greg_of_zero lines line s =
    if precedes_data lines line.number s || makes_zero_base lines s then Some (mark_of s.op.from s.op.text 0) else None

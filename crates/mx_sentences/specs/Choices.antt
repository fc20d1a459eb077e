-- Which sentence is said of a fault, where its number has several. A rule of this program.
use Rattle.std.specs.Prelude.{ℕ, ◌==◌, ◌&&◌, ◌||◌, not, nat_le, Bool, false, if◌then◌else◌, List, [], ◌∷◌, length, drop, Option, None, Some, is_some, bytes_eq, codes}
use Rattle.std.specs.List.{list_any}
use Rattle.mx_word.specs.Kinds.{is_letter}
use Rattle.mx_line.specs.Lines.{lines_of}
use Rattle.mx_ops.specs.Opcodes.{operation_of}
use Rattle.mx_foreign.specs.Foreign.{advice_of}
use Rattle.mx_asm.specs.Whole.{Line}
use Rattle.mx_marks.specs.declared.fields.Field.TheVariants.{Operands}
use Rattle.mx_marks.specs.declared.labels.Likeness.TheVariants.{Alike}
use Rattle.mx_marks.specs.declared.rooms.Room.{Room}
use Rattle.mx_marks.specs.declared.rooms.Room.TheVariants.{Byte, Wyde, Tetra, DataByte, DataWyde}
use Rattle.mx_sentences.specs.declared.choices.Unknown.{Unknown}
use Rattle.mx_sentences.specs.declared.choices.Unknown.TheVariants.{Indented, Remark, Foreign, Misspelled}
use Rattle.mx_marks.specs.Fields.{after_comma, from_field, operands_at, word}
use Rattle.mx_marks.specs.Labels.{first_label, is_label, labels_code}
use Rattle.mx_marks.specs.Marks.{operation_at, room_at}
use Rattle.mx_marks.specs.Syntax.{is_read_through}
use Rattle.mx_advice.specs.Rows.{Row, address_row, ahead_row, byte_row, colon_row, comma_row, comment_row, data_byte_row, data_wyde_row, end_row, far_row, foreign_row, hexadecimal_row, indented_row, later_code_row, later_row, match_row, nowhere_row, other_main_row, point_row, quote_row, remark_row, row_of, set_row, sum_row, tetra_row, wyde_row}

-- whether a name is a label of the source
abbrev pub is_defined : List ℕ → Line → Bool
is_defined source name = is_label name 4294967295 (lines_of source)

-- ---- operands that are no expressions

abbrev pub read_row : Line → Row
read_row [] = match_row
read_row (b ∷ bs) = end_row

-- a comment after an operation without operands: 33 is !, 37 %, 42 *, 47 / and 59 ;
abbrev pub begins_comment : Line → Bool
begins_comment [] = false
begins_comment (b ∷ bs) = b == 33 || b == 37 || b == 42 || b == 47 || b == 59

abbrev pub is_quote : ℕ → Bool
is_quote b = b == 34

-- by the first byte where the operands cease to be expressions: 46 is a point, 44 a comma, 120 an x, 88 an X and 72 an H
abbrev pub byte_stop_row : ℕ → Line → Row
byte_stop_row b operands =
    if b == 46 then point_row
    else if b == 44 then comma_row
    else if b == 120 || b == 88 then hexadecimal_row
    else if b == 72 then ahead_row
    else if list_any is_quote operands then quote_row
    else row_of 10

abbrev pub marked_stop_row : Line → Line → Row
marked_stop_row [] operands = row_of 10
marked_stop_row (b ∷ bs) operands = byte_stop_row b operands

abbrev pub stop_row : Line → Line → Row
stop_row marked operands = if begins_comment operands then comment_row else marked_stop_row marked operands

abbrev pub syntax_row : Line → Line → Row
syntax_row marked operands = if is_read_through operands then read_row marked else stop_row marked operands

-- ---- a name without a value

-- GETA does where LDA has a register and the label of an instruction, and nothing else.
abbrev pub gives_way : List ℕ → Line → Line → ℕ → Bool
gives_way source name line place =
    bytes_eq (operation_at line place) (codes "LDA") && bytes_eq (after_comma (operands_at line place)) name && labels_code name source

abbrev pub early_row : List ℕ → Line → Line → ℕ → Row
early_row source name line place =
    if is_defined source name then (if gives_way source name line place then later_code_row else later_row) else row_of 17

-- ---- an unknown operation

-- what it is: a label that is not in the first column, the first word of a comment, an operation of other machines, or a misspelling
abbrev pub begins_capital : Line → Bool
begins_capital [] = false
begins_capital (b ∷ bs) = nat_le 65 b && nat_le b 90

-- after a ; of its line, and with no capital
abbrev pub is_remark : Line → ℕ → Bool
is_remark marked place = not (place == 0) && not (begins_capital marked)

-- without a label in front of it, and with an operation after it
abbrev pub is_indented : Line → ℕ → Bool
is_indented line place = length (word (drop place line)) == 0 && is_some (operation_of (word (from_field Operands (drop place line))))

abbrev pub unknown_kind : Line → Line → ℕ → Unknown
unknown_kind marked line place =
    if is_remark marked place then Remark
    else if is_indented line place then Indented
    else if length (advice_of marked) == 0 then Misspelled
    else Foreign

abbrev pub operation_row : Unknown → Line → Row
operation_row Indented marked = indented_row
operation_row Remark marked = remark_row
operation_row Foreign marked = foreign_row (advice_of marked)
operation_row Misspelled marked = row_of 39

-- ---- a number without room

abbrev pub room_row : Room → Row
room_row Byte = byte_row
room_row Wyde = wyde_row
room_row Tetra = tetra_row
room_row DataByte = data_byte_row
room_row DataWyde = data_wyde_row

abbrev pub is_sum : Line → Bool
is_sum operation =
    bytes_eq operation (codes "ADD") || bytes_eq operation (codes "SUB") || bytes_eq operation (codes "ADDU") || bytes_eq operation (codes "SUBU")

abbrev pub is_set : Line → Bool
is_set operation = bytes_eq operation (codes "SET") || bytes_eq operation (codes "SETL")

-- A label of data is marked by its name, and a number below 0 with its minus, which is 45.
abbrev pub fit_row : Line → Line → ℕ → Row
fit_row [] line place = room_row (room_at line place)
fit_row (b ∷ bs) line place =
    if is_letter b then address_row
    else if b == 45 && is_sum (operation_at line place) then sum_row
    else if is_set (operation_at line place) then set_row
    else room_row (room_at line place)

-- ---- a local label that is nowhere further down

-- whether there is one further up: 1F refers to the label 1H, and 72 is H
abbrev pub local_row : List ℕ → Line → Row
local_row source [] = row_of 81
local_row source (d ∷ ds) = if is_defined source (d ∷ 72 ∷ []) then row_of 81 else nowhere_row

-- ---- a target that is too far away

abbrev pub is_geta : Line → ℕ → Bool
is_geta line place = bytes_eq (operation_at line place) (codes "GETA")

abbrev pub reach_row : ℕ → Line → ℕ → Row
reach_row fault line place = if is_geta line place then far_row else row_of fault

-- ---- a source without Main

-- a label that is like Main, where none is the same
abbrev pub like_main : List ℕ → Line
like_main source = if is_defined source (codes "Main") then [] else first_label Alike (codes "Main") 4294967295 (lines_of source)

abbrev pub has_colon : List ℕ → Bool
has_colon source = bytes_eq (like_main source) (codes "Main:")

-- ---- the row

-- that of a fault with this number, where this text is marked in the statement at a place: 10 is Syntax, 17 Future, 39 UnknownOpcode,
-- 43 Fit, 45 TooFar, 81 UndefinedLocal and 85 FutureTooFar
abbrev pub row_at : ℕ → List ℕ → Line → Line → ℕ → Row
row_at fault source marked line place =
    if fault == 10 then syntax_row marked (operands_at line place)
    else if fault == 17 then early_row source marked line place
    else if fault == 39 then operation_row (unknown_kind marked line place) marked
    else if fault == 43 then fit_row marked line place
    else if fault == 45 || fault == 85 then reach_row fault line place
    else if fault == 81 then local_row source marked
    else row_of fault

abbrev pub row_with : ℕ → List ℕ → Line → Line → Option ℕ → Row
row_with fault source marked line None = row_of fault
row_with fault source marked line (Some place) = row_at fault source marked line place

-- that of a fault of the source as a whole: 82 is MainUndefined
abbrev pub main_row : List ℕ → Row
main_row source = if has_colon source then colon_row else if length (like_main source) == 0 then row_of 82 else other_main_row

abbrev pub whole_row : ℕ → List ℕ → Row
whole_row fault source = if fault == 82 then main_row source else row_of fault

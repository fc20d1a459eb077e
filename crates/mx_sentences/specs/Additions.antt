-- What is added to what mends a fault, with the very operands of the statement.
use Rattle.std.specs.Prelude.{ℕ, ◌==◌, ◌&&◌, Bool, false, if◌then◌else◌, List, [], ◌∷◌, ◌++◌, length, nat_lt, bytes_eq, codes, decimal}
use Rattle.mx_word.specs.Kinds.{is_digit, is_letter}
use Rattle.mx_line.specs.Lines.{lines_of}
use Rattle.mx_asm.specs.Whole.{Line}
use Rattle.mx_marks.specs.Fields.{after_comma, first_operand, operands_at}
use Rattle.mx_marks.specs.Labels.{label_number}
use Rattle.mx_marks.specs.Marks.{operation_at}
use Rattle.mx_sentences.specs.Choices.{has_colon, is_geta, is_set, like_main}

abbrev pub begins_letter : Line → Bool
begins_letter [] = false
begins_letter (b ∷ bs) = is_letter b

abbrev pub begins_digit : Line → Bool
begins_digit [] = false
begins_digit (b ∷ bs) = is_digit b

-- ---- a number that has no room in SET

-- one below 0, by its digits
unfoldable pub short_negative : Line → Line → Line
short_negative register digits = codes "Take NEG " ++ register ++ codes "," ++ digits ++ codes "."

unfoldable pub set_end : Line → Line
set_end register = codes " and NEG " ++ register ++ codes "," ++ register ++ codes "."

unfoldable pub long_negative : Line → Line → Line
long_negative register digits = codes "Take SET " ++ register ++ codes "," ++ digits ++ set_end register

abbrev pub negative_text : Line → Line → Line
negative_text register digits = if nat_lt (length digits) 3 then short_negative register digits else long_negative register digits

-- a large one
unfoldable pub setml_front : Line → Line
setml_front register = codes "Take SETML " ++ register ++ codes ","

unfoldable pub incl_front : Line → Line
incl_front register = codes ">>16 and INCL " ++ register ++ codes ","

unfoldable pub large_text : Line → Line → Line
large_text register number = setml_front register ++ number ++ incl_front register ++ number ++ codes "&#ffff."

-- 45 is a minus
abbrev pub number_text : Line → Line → Line
number_text register [] = []
number_text register (b ∷ bs) = if b == 45 then negative_text register bs else large_text register (b ∷ bs)

abbrev pub set_text : Line → Line → ℕ → Line
set_text marked line place = if is_set (operation_at line place) then number_text (first_operand (operands_at line place)) marked else []

-- ---- an address that GETA does not reach

-- A label further down is not known to LDA. 85 is FutureTooFar.
abbrev pub far_end : ℕ → Line
far_end fault = if fault == 85 then codes ", both above this line." else codes "."

unfoldable pub named_text : ℕ → Line → Line → Line
named_text fault operands name = codes "Use LDA " ++ operands ++ codes ", with GREG @ in front of " ++ name ++ far_end fault

unfoldable pub unnamed_text : Line
unnamed_text = codes "Use LDA, with GREG @ in front of the data."

abbrev pub far_text : ℕ → Line → Line
far_text fault operands =
    if begins_letter (after_comma operands) then named_text fault operands (after_comma operands) else unnamed_text

abbrev pub reach_text : ℕ → Line → ℕ → Line
reach_text fault line place = if is_geta line place then far_text fault (operands_at line place) else []

-- ---- an operation that takes such operands

unfoldable pub go_text : Line → Line
go_text operands = codes " GO $0," ++ operands ++ codes " goes to the address in a register."

unfoldable pub stco_text : Line → Line
stco_text operands = codes " STCO " ++ operands ++ codes " stores a number up to 255."

-- 41 is NotRegister, and 42 NotPure
abbrev pub other_text : ℕ → Line → Line → Line
other_text fault operation operands =
    if fault == 42 && bytes_eq operation (codes "JMP") then go_text operands
    else if fault == 41 && bytes_eq operation (codes "STO") then stco_text operands
    else []

abbrev pub instead_text : ℕ → Line → ℕ → Line
instead_text fault line place = other_text fault (operation_at line place) (operands_at line place)

-- ---- a number that is taken for an address

unfoldable pub address_front : Line → Line
address_front number = codes " " ++ number ++ codes " is an address here"

unfoldable pub set_makes : Line → Line
set_makes operands = codes ": SET " ++ operands ++ codes " makes a number."

abbrev pub address_of_number : Line → Line
address_of_number operands = address_front (after_comma operands) ++ set_makes operands

-- a load: 76 is L
abbrev pub is_load : Line → Bool
is_load [] = false
is_load (b ∷ bs) = b == 76

abbrev pub number_address_text : Line → Line → Line
number_address_text operation operands =
    if is_load operation && begins_digit (after_comma operands) then address_of_number operands else []

abbrev pub base_text : Line → ℕ → Line
base_text line place = number_address_text (operation_at line place) (operands_at line place)

-- ---- a label that is like Main

unfoldable pub label_front : Line → Line
label_front label = codes "The label `" ++ label ++ codes "` in line "

abbrev pub label_text : Line → ℕ → Line
label_text label number = label_front label ++ decimal number

abbrev pub main_end : Line → Line
main_end label =
    if bytes_eq label (codes "main") then codes " begins with a small letter: write Main."
    else codes " is no Main: write Main, if the program starts there."

abbrev pub label_main_text : Line → List ℕ → Line
label_main_text [] source = []
label_main_text (b ∷ bs) source = label_text (b ∷ bs) (label_number (b ∷ bs) 4294967295 1 (lines_of source)) ++ main_end (b ∷ bs)

-- 82 is MainUndefined
abbrev pub main_text : ℕ → List ℕ → Line
main_text fault source =
    if fault == 82 then (if has_colon source then [] else label_main_text (like_main source) source) else []

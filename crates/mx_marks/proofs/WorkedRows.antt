-- The definitions on worked rows.
use Rattle.std.proofs.Common.{◌≡◌, [], ◌∷◌, true, false, refl, codes}
use Rattle.mx_marks.specs.Labels.{is_near, label_number}
use Rattle.mx_marks.specs.Mending.{label_alone, line_text, lines_with}
use Rattle.mx_marks.specs.Syntax.{scan, scan_from}
use Rattle.mx_marks.specs.Tokens.{is_above}

-- a letter that differs, one too many, one too few, two that are exchanged, and two that differ
other-letter : is_near true (codes "Loop") (codes "Lopp") ≡ true
unfolding is_near
other-letter = refl

letter-more : is_near true (codes "ADDD") (codes "ADD") ≡ true
unfolding is_near
letter-more = refl

letter-less : is_near true (codes "Lop") (codes "Loop") ≡ true
unfolding is_near
letter-less = refl

letters-exchanged : is_near true (codes "Lopo") (codes "Loop") ≡ true
unfolding is_near
letters-exchanged = refl

two-letters : is_near true (codes "Loop") (codes "Lamp") ≡ false
unfolding is_near
two-letters = refl

-- of short words: a letter at the end, a digit for a letter, and two that are no slips
letter-after : is_near false (codes "INC") (codes "INCL") ≡ true
unfolding is_near
letter-after = refl

digit-for-letter : is_near false (codes "ST0") (codes "STO") ≡ true
unfolding is_near
digit-for-letter = refl

short-other : is_near false (codes "MOV") (codes "MOR") ≡ false
unfolding is_near
short-other = refl

short-inside : is_near false (codes "JSR") (codes "SR") ≡ false
unfolding is_near
short-inside = refl

-- the line of a label, what it is in front of, and a label that is further down than is looked for
label-line : label_number (codes "B") 2 1 (codes "A SWYM" ∷ codes "B BYTE 1" ∷ []) ≡ 2
unfolding label_number
label-line = refl

label-below : label_number (codes "B") 1 1 (codes "A SWYM" ∷ codes "B BYTE 1" ∷ []) ≡ 0
unfolding label_number
label-below = refl

-- numbers
decimal-above : is_above 255 (codes "256,$1") ≡ true
decimal-above = refl

hexadecimal-fits : is_above 255 (codes "#ff,$1") ≡ false
hexadecimal-fits = refl

-- a blank ends the operands too early; `0x100` goes wrong at its second byte; and operands that are expressions
early-end : scan (codes "$0,") ≡ record { wants = true; rest = [] }
unfolding scan_from
early-end = refl

stopped : scan (codes "$0,0x100") ≡ record { wants = false; rest = codes "x100" }
unfolding scan_from
stopped = refl

read : scan (codes "$0,2F-@//3<<(x+#f),\"a;b\",'c'") ≡ record { wants = false; rest = [] }
unfolding scan_from
read = refl

-- the second of three lines is another text
blank-line : lines_with 2 (codes " ") (codes "A SWYM" ∷ codes " B 1" ∷ codes "C" ∷ []) ≡ codes "A SWYM" ∷ codes " " ∷ codes "C" ∷ []
unfolding lines_with
blank-line = refl

second-line : line_text 2 (codes "A" ∷ codes "B" ∷ codes "C" ∷ []) ≡ codes "B"
unfolding line_text
second-line = refl

-- what is left of a line: the label of an instruction is an address, that of IS a register or a number; a local label; and nothing
label-left : label_alone (codes "Loop  ADD $1,$1,1000") ≡ codes "Loop IS @"
unfolding label_alone
label-left = refl

register-left : label_alone (codes "n IS $1 ; the counter") ≡ codes "n IS $0"
unfolding label_alone
register-left = refl

number-left : label_alone (codes "n\tIS 5,") ≡ codes "n IS 1"
unfolding label_alone
number-left = refl

local-left : label_alone (codes "2H") ≡ codes "2H IS @"
unfolding label_alone
local-left = refl

nothing-left : label_alone (codes " ADD $1,$1,1000") ≡ codes " "
unfolding label_alone
nothing-left = refl

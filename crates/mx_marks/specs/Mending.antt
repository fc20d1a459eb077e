-- A source of which lines do nothing but define their labels. A rule of this program.
use Rattle.std.specs.Prelude.{ℕ, ◌-◌, ◌==◌, nat_lt, if◌then◌else◌, List, [], ◌∷◌, ◌++◌, length, codes}
use Rattle.std.specs.List.{flat_map}
use Rattle.std.specs.Str.{bytes_eq}
use Rattle.mx_line.specs.Bytes.{is_name_byte, run}
use Rattle.mx_line.specs.Lines.{lines_of}
use Rattle.mx_marks.specs.declared.fields.Field.TheVariants.{Operands, Operation}
use Rattle.mx_marks.specs.Fields.{Line, from_field}

-- ---- lines by their numbers

-- a line with its newline
abbrev pub with_newline : Line → Line
with_newline line = line ++ codes "\n"

-- the text of line k, counted from 1
unfoldable pub line_text : ℕ → List Line → Line
line_text k [] = []
line_text k (line ∷ later) = if k == 1 then line else line_text (k - 1) later

-- a line, or a text in place of line k, where k counts from 1 at this line
abbrev pub replaced : ℕ → Line → Line → Line
replaced k text line = if k == 1 then text else line

-- lines, of which line k, counted from 1, is this text
unfoldable pub lines_with : ℕ → Line → List Line → List Line
lines_with k text [] = []
lines_with k text (line ∷ later) = replaced k text line ∷ lines_with (k - 1) text later

-- the source of which line k is this text: its lines, each with a newline
unfoldable pub with_line : ℕ → Line → List ℕ → List ℕ
with_line k text source = flat_map with_newline (lines_with k text (lines_of source))

-- ---- what is left of a line

-- its label: the letters and digits at its front; a line above 4,096 bytes has none
abbrev pub front_label : Line → Line
front_label line = if nat_lt 4096 (length line) then [] else run is_name_byte line

-- What the label of an IS becomes: a register where the operand begins as one, else a number that fits everywhere.
abbrev pub is_value : Line → Line
is_value [] = codes " IS 1"
is_value (b ∷ bs) = if b == 36 then codes " IS $0" else codes " IS 1"

-- The label of a GREG becomes a register, and that of all else the address where it is.
abbrev pub value_text : Line → Line → Line
value_text operation operands =
    if bytes_eq operation (codes "GREG") then codes " IS $0"
    else if bytes_eq operation (codes "IS") then is_value operands
    else codes " IS @"

abbrev pub with_value : Line → Line → Line
with_value [] value = codes " "
with_value (b ∷ bs) value = (b ∷ bs) ++ value

-- a line that does nothing but define the label of this line; it is blank where there is none
unfoldable pub label_alone : Line → Line
label_alone line = with_value (front_label line) (value_text (run is_name_byte (from_field Operation line)) (from_field Operands line))

-- the source of which line k does nothing but define its label
abbrev pub with_label : ℕ → List ℕ → List ℕ
with_label k source = with_line k (label_alone (line_text k (lines_of source))) source

-- and the one of which it is blank
abbrev pub with_blank : ℕ → List ℕ → List ℕ
with_blank k source = with_line k (codes " ") source

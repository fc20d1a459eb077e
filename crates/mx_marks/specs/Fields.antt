-- Which statement of a line and which of its fields a fault is about, and where they begin. A rule of this program.
use Rattle.std.specs.Prelude.{ℕ, ◌+◌, ◌-◌, ◌==◌, Bool, not, List, [], ◌∷◌, length, take, drop, if◌then◌else◌, Option, None, Some, is_some, Result, Ok, Err}
use Rattle.mx_line.specs.Bytes.{is_blank, is_name_byte, past, run}
use Rattle.mx_line.specs.Cutting.{statement_of}
use Rattle.mx_line.specs.declared.cutter.Cut.{Cut}
use Rattle.mx_line.specs.declared.faults.LineFault.{LineFault}
use Rattle.mx_line.specs.declared.faults.LineFault.TheVariants.{TooLong, BadLabel, BadLocal, BadOpcode, NoOpcode}
use Rattle.mx_ops.specs.Opcodes.{operation_of}
use Rattle.mx_stmt.specs.declared.faults.StmtFault.{StmtFault}
use Rattle.mx_stmt.specs.declared.faults.StmtFault.TheVariants.{UnknownOpcode, TooManyGregs, LabelNotAllowed, BadPlace}
use Rattle.mx_marks.specs.declared.fields.Field.{Field}
use Rattle.mx_marks.specs.declared.fields.Field.TheVariants.{Label, Operation, Operands}

-- a line, or a part of one
abbrev pub Line : Type 0
Line = List ℕ

-- ---- which field a fault is about

abbrev pub line_field : LineFault → Option Field
line_field TooLong = None
line_field BadLabel = Some Label
line_field BadLocal = Some Label
line_field NoOpcode = Some Label
line_field BadOpcode = Some Operation
line_field why = Some Operands  -- a string or a character constant that is not closed

abbrev pub statement_field : StmtFault → Field
statement_field LabelNotAllowed = Label
statement_field UnknownOpcode = Operation
statement_field TooManyGregs = Operation
statement_field BadPlace = Operation
statement_field why = Operands

-- ---- the fields of a statement

-- the letters and digits at the front of a text
abbrev pub word : Line → Line
word text = run is_name_byte text

-- what follows them, and what follows the blanks after them
abbrev pub after_word : Line → Line
after_word text = past is_blank (past is_name_byte text)

-- A statement from one of its fields on: the operation follows the label, and the operands after the operation.
abbrev pub from_field : Field → Line → Line
from_field Label text = text
from_field Operation text = after_word text
from_field Operands text = after_word (after_word text)

-- the operands at the front of a text, where the statement at this place is cut from its line; else all of the text
abbrev pub operands_by : Result (Option Cut) LineFault → Line → Line
operands_by (Ok (Some cut)) text = take (cut.operands.to - cut.operands.from) text
operands_by cut text = text

abbrev pub operands_at : Line → ℕ → Line
operands_at line place = operands_by (statement_of line place) (from_field Operands (drop place line))

-- what follows the first comma of operands; no text where there is none: 44 is a comma
abbrev pub is_no_comma : ℕ → Bool
is_no_comma b = not (b == 44)

-- the operands in front of their first comma, or all
abbrev pub first_operand : Line → Line
first_operand operands = run is_no_comma operands

abbrev pub after_comma : Line → Line
after_comma operands = drop (length (run is_no_comma operands) + 1) operands

-- ---- which statement

-- the place after the statements that are cut from a line
abbrev pub after_cuts : ℕ → List (Result Cut LineFault) → ℕ
after_cuts place [] = place
after_cuts place (Err why ∷ cuts) = place
after_cuts place (Ok cut ∷ cuts) = after_cuts cut.next cuts

-- the front of a line, if it has one statement and no more
abbrev pub only_front : List (Result Cut LineFault) → Option ℕ
only_front (Ok cut ∷ []) = Some 0
only_front cuts = None

-- the place of the first statement whose operation has no such name
abbrev pub is_operation : Line → Option ℕ → ℕ → Option ℕ
is_operation line later place = if is_some (operation_of (word (from_field Operation (drop place line)))) then later else Some place

abbrev pub unknown_from : Line → ℕ → List (Result Cut LineFault) → Option ℕ
unknown_from line place [] = None
unknown_from line place (Err why ∷ cuts) = None
unknown_from line place (Ok cut ∷ cuts) = is_operation line (unknown_from line cut.next cuts) place

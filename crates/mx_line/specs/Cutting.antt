-- The statements of a line, cut one after another.
-- (MMIXware, the part on MMIXAL: labels, operations, operands, comments, and `;`; TAOCP 1, Fascicle 1, section
-- 1.3.2'.)
use Rattle.std.specs.Prelude.{◌≡◌, ℕ, zero, suc, ◌+◌, ◌<◌, ◌≤◌, IfOk, IfSome, ◌-◌, List, [], ◌∷◌, length, drop, Bool, true, false, not, ◌==◌, ◌&&◌, nat_lt, if◌then◌else◌, Option, None, Some, Result, Ok, Err, codes}
use Rattle.std.specs.Str.{bytes_eq}
use Rattle.mx_line.specs.declared.spans.Span.{Span}
use Rattle.mx_line.specs.declared.faults.LineFault.{LineFault}
use Rattle.mx_line.specs.declared.faults.LineFault.TheVariants.{TooLong, BadLabel, BadLocal, BadOpcode, NoOpcode}
use Rattle.mx_line.specs.declared.cutter.Cut.{Cut}
use Rattle.mx_line.specs.Bytes.{is_blank, is_digit, is_name_byte, run, past}
use Rattle.mx_line.specs.Fields.{ends_here, field_length}
use Rattle.mx_line.specs.Spans.{span}

-- Each definition below is given a text and the place in the line at which the text is.

-- If the first byte that is not blank after the operand field is `;`, the next statement begins
-- right after it. Anything else to the end of the line is a comment.
abbrev pub next_from : ℕ → List ℕ → List ℕ → ℕ
next_from place gap [] = place + length gap
next_from place gap (b ∷ bs) = if b == 59 then place + length gap + 1 else place + length gap + length (b ∷ bs)

abbrev pub next_after : ℕ → List ℕ → ℕ
next_after place text = next_from place (run is_blank text) (past is_blank text)

-- The operand field follows the blanks after the opcode.
abbrev pub with_field : Option Span → Span → ℕ → List ℕ → Result ℕ LineFault → Result (Option Cut) LineFault
with_field label op place text (Err fault) = Err fault
with_field label op place text (Ok count) =
    Ok (Some (record { label = label; op = op; operands = record { from = place; to = place + count }; next = next_after (place + count) (drop count text) }))

abbrev pub operands_at : Option Span → Span → ℕ → List ℕ → Result (Option Cut) LineFault
operands_at label op place text = with_field label op (place + length (run is_blank text)) (past is_blank text) (field_length (past is_blank text))

-- Without an opcode the rest of the line is a comment; but a label needs an opcode.
abbrev pub no_opcode : Option Span → Result (Option Cut) LineFault
no_opcode None = Ok None
no_opcode (Some label) = Err NoOpcode

-- The opcode is a run of letters and digits.
abbrev pub opcode_at : Option Span → ℕ → List ℕ → List ℕ → Result (Option Cut) LineFault
opcode_at label place [] rest = no_opcode label
opcode_at label place (b ∷ bs) rest =
    if ends_here rest then operands_at label (span place (b ∷ bs)) (place + length (b ∷ bs)) rest else Err BadOpcode

-- It follows the blanks after the label, or at the front of a statement without a label.
abbrev pub operation_at : Option Span → ℕ → List ℕ → Result (Option Cut) LineFault
operation_at label place text =
    opcode_at label (place + length (run is_blank text)) (run is_name_byte (past is_blank text)) (past is_name_byte (past is_blank text))

-- A label is followed by a blank or the end of the line.
abbrev pub ends_label : List ℕ → Bool
ends_label [] = true
ends_label (b ∷ bs) = is_blank b

-- A label that begins with a digit is that digit and `H`.
abbrev pub is_bad_local : List ℕ → Bool
is_bad_local [] = false
is_bad_local (b ∷ bs) = is_digit b && not (bytes_eq bs (codes "H"))

-- A label is a run of letters and digits.
abbrev pub labelled_at : ℕ → List ℕ → List ℕ → Result (Option Cut) LineFault
labelled_at place label rest =
    if is_bad_local label then Err BadLocal
    else if ends_label rest then operation_at (Some (span place label)) (place + length label) rest
    else Err BadLabel

-- The statement at the front of a text. It begins with a label or a blank; anything else is a
-- comment to the end of the line.
abbrev pub statement_at : ℕ → List ℕ → Result (Option Cut) LineFault
statement_at place [] = Ok None
statement_at place (b ∷ bs) =
    if is_name_byte b then labelled_at place (run is_name_byte (b ∷ bs)) (past is_name_byte (b ∷ bs))
    else if is_blank b then operation_at None place (b ∷ bs)
    else Ok None

-- a line's statement at a place; a line of more than 4,096 bytes has only its fault
abbrev pub is_too_long : List ℕ → ℕ → Bool
is_too_long line place = place == 0 && nat_lt 4096 (length line)

unfoldable pub statement_of : List ℕ → ℕ → Result (Option Cut) LineFault
statement_of line place = if is_too_long line place then Err TooLong else statement_at place (drop place line)

-- the list that begins with this statement: a fault ends it
abbrev pub list_with : (ℕ → List (Result Cut LineFault)) → Result (Option Cut) LineFault → List (Result Cut LineFault)
list_with later (Err fault) = Err fault ∷ []
list_with later (Ok None) = []
list_with later (Ok (Some cut)) = Ok cut ∷ later cut.next

-- at most this many statements of a line from a place on
unfoldable pub cuts_within : ℕ → List ℕ → ℕ → List (Result Cut LineFault)
cuts_within zero line place = []
cuts_within (suc most) line place = list_with (cuts_within most line) (statement_of line place)

-- The statements of a line from a place on. Each takes a byte or more, so the bytes left bound them.
abbrev pub cuts_from : List ℕ → ℕ → List (Result Cut LineFault)
cuts_from line place = cuts_within (length line + 1 - place) line place

-- where the parts of a statement are that begins at a place: in order, up to the line's end
abbrev pub LabelBefore : ℕ → Option Span → ℕ → Type 0
LabelBefore place None op = place < op
LabelBefore place (Some label) op = (label.from ≡ place) × (place < label.to) × (label.to < op)

pub record InOrder (place end : ℕ) (cut : Cut) : Type 0 where
  pub label : LabelBefore place cut.label cut.op.from
  pub op : cut.op.from < cut.op.to
  pub gap : cut.op.to ≤ cut.operands.from
  pub operands : cut.operands.from ≤ cut.operands.to
  pub next : cut.operands.to ≤ cut.next
  pub within : cut.next ≤ end

abbrev pub CutInOrder : ℕ → ℕ → Result (Option Cut) LineFault → Type 0
CutInOrder place end result = IfOk result (λ found. IfSome found (InOrder place end))

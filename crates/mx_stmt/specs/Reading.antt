-- How a statement that was cut from a line is read: its label, its operation and its operands (MMIXware, MMIXAL;
-- TAOCP 1, Fascicle 1, section 1.3.2').
use Rattle.std.specs.Prelude.{◌≡◌, ◌≢◌, ◌≤◌, ℕ, ◌-◌, IfSome, is_some, ◌&&◌, not, Bool, true, false, if◌then◌else◌, List, [], ◌∷◌, Option, None, Some, Result, Ok, Err}
use Rattle.std.specs.List.{All}
use Rattle.mx_word.specs.Kinds.{is_digit}
use Rattle.mx_word.specs.Results.{map_ok}
use Rattle.mx_line.specs.declared.spans.Span.{Span}
use Rattle.mx_line.specs.declared.cutter.Cut.{Cut}
use Rattle.mx_line.specs.Spans.{part}
use Rattle.mx_expr.specs.declared.faults.ExprFault.{ExprFault}
use Rattle.mx_expr.specs.declared.tree.Expr.{Expr}
use Rattle.mx_expr.specs.Tree.{tree_of, HasDigits}
use Rattle.mx_expr.specs.Spelling.{Spells, Faultless, IsFirst}
use Rattle.mx_ops.specs.declared.op.Op.{Op}
use Rattle.mx_ops.specs.declared.op.Op.TheVariants.{Pseudo as PseudoOp}
use Rattle.mx_ops.specs.declared.op.Pseudo.TheVariants as pseudo
use Rattle.mx_ops.specs.Opcodes.{operation_of}
use Rattle.mx_stmt.specs.declared.statement.Label.{Label}
use Rattle.mx_stmt.specs.declared.statement.Label.TheVariants.{Name, Local}
use Rattle.mx_stmt.specs.declared.statement.Statement.{Statement}
use Rattle.mx_stmt.specs.declared.faults.StmtFault.{StmtFault}
use Rattle.mx_stmt.specs.declared.faults.StmtFault.TheVariants.{UnknownOpcode, LabelNotAllowed, OutOfMemory}
use Rattle.mx_stmt.specs.Faults.{fault_of}
use Rattle.mx_stmt.specs.Steps.{Answer}
use Rattle.mx_stmt.specs.Encoding.{StatementTree, statement_tree}

-- a label: one that begins with a digit is a local one
abbrev pub label_of : List ℕ → Label
label_of [] = Name []
label_of (b ∷ bs) = if is_digit b then Local (b - 48) else Name (b ∷ bs)

-- PREFIX and LOCAL take no label.
abbrev pub takes_label : Op → Bool
takes_label (PseudoOp pseudo.Prefix) = false
takes_label (PseudoOp pseudo.Local) = false
takes_label op = true

-- the operation of a name, with a label or without one
abbrev pub operation_with : Bool → Option Op → Answer Op
operation_with labelled None = Err UnknownOpcode
operation_with labelled (Some op) = if labelled && not (takes_label op) then Err LabelNotAllowed else Ok op

abbrev pub operation_for : Bool → List ℕ → Answer Op
operation_for labelled name = operation_with labelled (operation_of name)

-- the parts of a statement as they were cut from its line
pub record Fields : Type 0 where
  pub label : Option Label
  pub op : List ℕ
  pub operands : List ℕ

abbrev pub label_in : List ℕ → Option Span → Option Label
label_in text None = None
label_in text (Some span) = Some (label_of (part text span))

abbrev pub fields_of : List ℕ → Cut → Fields
fields_of text cut = record { label = label_in text cut.label; op = part text cut.op; operands = part text cut.operands }

-- The statement is what the fields say.
pub record IsRead (fields : Fields) (line : ℕ) (s : StatementTree) : Type 0 where
  pub line_is : s.line ≡ line
  pub label_is : s.label ≡ fields.label
  pub op_is : operation_for (is_some fields.label) fields.op ≡ Ok s.op
  pub spelled : Spells fields.operands s.operands
  pub faultless : Faultless fields.operands

-- The first fault of the fields: an unknown operation, then a label that is not allowed, then the first fault of the
-- operand field.
pub data IsFault (fields : Fields) : StmtFault → Type 0 where
  operation : (fault : StmtFault) → operation_for (is_some fields.label) fields.op ≡ Err fault → IsFault fields fault
  operand_list : (op : Op) (fault : ExprFault) → operation_for (is_some fields.label) fields.op ≡ Ok op → IsFirst fields.operands fault → IsFault fields (fault_of fault)

-- The spans of a cut lie in a line of this length.
abbrev pub SpanWithin : ℕ → Span → Type 0
SpanWithin end span = (span.from ≤ span.to) × (span.to ≤ end)

pub record CutWithin (end : ℕ) (cut : Cut) : Type 0 where
  pub label : IfSome cut.label (SpanWithin end)
  pub op : SpanWithin end cut.op
  pub operands : SpanWithin end cut.operands

-- The digit of a local label is one of 0 to 9, and so are those of the operands.
abbrev pub LabelHasDigit : Label → Type 0
LabelHasDigit (Name full) = Unit {0}
LabelHasDigit (Local d) = d ≤ 9

abbrev pub OperandsHaveDigits : List Expr → Type 0
OperandsHaveDigits operands = All (λ e. HasDigits (tree_of e)) operands

abbrev pub StatementHasDigits : Statement → Type 0
StatementHasDigits s = IfSome s.label LabelHasDigit × OperandsHaveDigits s.operands

-- unless there was no memory, the statement that was read, or its fault, is this
abbrev pub ReadsAs : Result Statement StmtFault → Result StatementTree StmtFault → Type 0
ReadsAs result answer = result ≢ Err OutOfMemory → map_ok statement_tree result ≡ answer

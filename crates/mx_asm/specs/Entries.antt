-- The statements of a source, each read; what is not read is listed as its refusal. That this goes by the grammar of the
-- fields is the law `entries_are_read`. (MMIXware, MMIXAL: label, operation and operands.)
use Rattle.std.specs.Prelude.{ℕ, Bool, true, false, List, [], ◌∷◌, map, is_some, option_map, Option, None, Some, Result, Ok, Err}
use Rattle.mx_line.specs.declared.faults.LineFault.{LineFault}
use Rattle.mx_line.specs.declared.cutter.Cut.{Cut}
use Rattle.mx_line.specs.Cutting.{cuts_from}
use Rattle.mx_line.specs.Source.{Item, statement, faulty, too_far, items_of, statements_of}
use Rattle.mx_expr.specs.declared.faults.ExprFault.{ExprFault}
use Rattle.mx_expr.specs.Tree.{Tree}
use Rattle.mx_expr.specs.Reading.{reading}
use Rattle.mx_ops.specs.declared.op.Op.{Op}
use Rattle.mx_stmt.specs.Faults.{fault_of}
use Rattle.mx_stmt.specs.Steps.{Answer}
use Rattle.mx_stmt.specs.Encoding.{StatementTree}
use Rattle.mx_stmt.specs.Reading.{Fields, label_of, operation_for}
use Rattle.mx_asm.specs.declared.faults.AsmFault.TheVariants.{Line, Stmt, SourceTooLong}
use Rattle.mx_asm.specs.declared.refused.Refused.{Refused}
use Rattle.mx_asm.specs.Faults.{refused}

-- The statement that fields say: first its operation counts, then its operand list.
abbrev pub with_operands : Fields → ℕ → Op → Result (List Tree) ExprFault → Answer StatementTree
with_operands fields line op (Err fault) = Err (fault_of fault)
with_operands fields line op (Ok operands) = Ok (record { line = line; label = fields.label; op = op; operands = operands })

abbrev pub with_operation : Fields → ℕ → Answer Op → Answer StatementTree
with_operation fields line (Err fault) = Err fault
with_operation fields line (Ok op) = with_operands fields line op (reading fields.operands)

abbrev pub statement_in : Fields → ℕ → Answer StatementTree
statement_in fields line = with_operation fields line (operation_for (is_some fields.label) fields.op)

-- a statement, or why it or its line is refused
abbrev pub Entry : Type 0
Entry = Result StatementTree Refused

abbrev pub entry_with : ℕ → Answer StatementTree → Entry
entry_with line (Ok s) = Ok s
entry_with line (Err fault) = Err (refused line (Stmt fault))

abbrev pub entry_of : Item → Entry
entry_of (statement line label op operands) =
    entry_with line (statement_in (record { label = option_map label_of label; op = op; operands = operands }) line)
entry_of (faulty line why) = Err (refused line (Line why))
entry_of (too_far line) = Err (refused line SourceTooLong)

abbrev pub entries_of : List Item → List Entry
entries_of items = map entry_of items

-- the entries of a line with this number, and of a source
abbrev pub line_entries : ℕ → List ℕ → List Entry
line_entries number line = entries_of (items_of number line)

abbrev pub source_entries : List ℕ → List Entry
source_entries source = entries_of (statements_of source)

-- whether a line holds a statement: an empty line, a comment and a line with a fault before any statement hold none
abbrev pub begins_with_statement : List (Result Cut LineFault) → Bool
begins_with_statement [] = false
begins_with_statement (Err fault ∷ cuts) = false
begins_with_statement (Ok cut ∷ cuts) = true

abbrev pub holds_statement : List ℕ → Bool
holds_statement line = begins_with_statement (cuts_from line 0)

-- the statements before the first refusal, and that refusal
abbrev pub statements_in : List Entry → List StatementTree
statements_in [] = []
statements_in (Err refused ∷ entries) = []
statements_in (Ok s ∷ entries) = s ∷ statements_in entries

abbrev pub refusal_in : List Entry → Option Refused
refusal_in [] = None
refusal_in (Err refused ∷ entries) = Some refused
refusal_in (Ok s ∷ entries) = refusal_in entries

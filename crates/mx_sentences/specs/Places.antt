-- Which statement of a line a fault is about, which of its fields, and which text is marked.
use Rattle.std.specs.Prelude.{ℕ, List, Option, None, Some}
use Rattle.mx_line.specs.Cutting.{cuts_from}
use Rattle.mx_stmt.specs.declared.faults.StmtFault.TheVariants.{UnknownOpcode}
use Rattle.mx_asm.specs.Faults.{fault_number}
use Rattle.mx_asm.specs.Whole.{Line}
use Rattle.mx_asm.specs.declared.faults.AsmFault.{AsmFault}
use Rattle.mx_asm.specs.declared.faults.AsmFault.TheVariants as fault
use Rattle.mx_marks.specs.declared.fields.Field.{Field}
use Rattle.mx_marks.specs.declared.fields.Field.TheVariants.{Label, Operands}
use Rattle.mx_marks.specs.declared.marks.Mark.{Mark}
use Rattle.mx_marks.specs.Fields.{after_cuts, line_field, only_front, statement_field, unknown_from}
use Rattle.mx_marks.specs.Marks.{field_mark}

-- A label that does not suit a reference is about the operands of the reference. A fault of the source as a whole has no field.
abbrev pub field_of : AsmFault → Option Field
field_of (fault.Line why) = line_field why
field_of (fault.Stmt why) = Some (statement_field why)
field_of (fault.Name why) = Some Label
field_of fault.UndefinedSymbol = Some Operands
field_of fault.UndefinedLocal = Some Operands
field_of fault.FutureRegister = Some Operands
field_of fault.FutureTooFar = Some Operands
field_of fault.FutureNotMultiple = Some Operands
field_of whole = None

-- Where the faulty statement begins: the one that is not cut from its line; the first one with an unknown operation; or the only one
-- of its line.
abbrev pub statement_place : AsmFault → Line → Option ℕ
statement_place (fault.Line why) line = Some (after_cuts 0 (cuts_from line 0))
statement_place (fault.Stmt UnknownOpcode) line = unknown_from line 0 (cuts_from line 0)
statement_place why line = only_front (cuts_from line 0)

abbrev pub mark_with : AsmFault → ℕ → List ℕ → Line → Option Field → Option ℕ → Option Mark
mark_with why number source line (Some field) (Some place) = Some (field_mark (fault_number why) number source line field place)
mark_with why number source line field place = None

-- the mark of a fault in this line of a source, which has this number
unfoldable pub mark_of : AsmFault → ℕ → List ℕ → Line → Option Mark
mark_of why number source line = mark_with why number source line (field_of why) (statement_place why line)

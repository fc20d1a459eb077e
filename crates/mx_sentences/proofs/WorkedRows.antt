-- The definitions on worked rows.
use Rattle.std.proofs.Common.{◌≡◌, None, Some, refl, codes}
use Rattle.mx_line.specs.declared.faults.LineFault.TheVariants.{NoOpcode}
use Rattle.mx_stmt.specs.declared.faults.StmtFault.TheVariants.{Fit}
use Rattle.mx_asm.specs.declared.faults.AsmFault.TheVariants as fault
unfoldable use Rattle.mx_line.specs.Cutting.{cuts_within, statement_of}
unfoldable use Rattle.mx_line.specs.Fields.{field_from}
use Rattle.mx_sentences.specs.Places.{statement_place}

-- the only statement of a line; the second one, which is not cut; and none of two
only-place : statement_place (fault.Stmt Fit) (codes "\tSET $0,70000") ≡ Some 0
unfolding cuts_within statement_of field_from
only-place = refl

second-place : statement_place (fault.Line NoOpcode) (codes "A SWYM 0;SET $0") ≡ Some 9
unfolding cuts_within statement_of field_from
second-place = refl

no-place : statement_place (fault.Stmt Fit) (codes "A SWYM 0; SET $0,70000") ≡ None
unfolding cuts_within statement_of field_from
no-place = refl

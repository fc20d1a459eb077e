use Rattle.mx_files.proofs.Causes.{write-misused}
use Rattle.mx_files.proofs.pieces.put_piece.Goals as goal

pub returns-in-Err-Misused : goal.returns-in-Err-Misused
returns-in-Err-Misused g c = write-misused _ _ _ _ _ _ (rw c.in-Err-Misused.field-0-is at c.in-Err-Misused.ensures.told) (rw c.in-Err-Misused.field-0-is at c.in-Err-Misused.ensures.misused) c.in-Err-Misused.ensures.keeps

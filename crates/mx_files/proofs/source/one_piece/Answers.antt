use Rattle.mx_files.proofs.Causes.{read-misused}
use Rattle.mx_files.proofs.source.one_piece.Goals as goal

pub returns-in-Err-Misused : goal.returns-in-Err-Misused
returns-in-Err-Misused g c = read-misused _ _ _ _ _ (rw c.requires at (rw c.in-Err-Misused.field-0-is at c.in-Err-Misused.ensures.told)) (rw c.in-Err-Misused.field-0-is at c.in-Err-Misused.ensures.misused)
    c.in-Err-Misused.ensures.keeps

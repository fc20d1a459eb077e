use Rattle.mx_files.proofs.Causes.{close-misused}
use Rattle.mx_files.proofs.pieces.close_file.Goals as goal

pub returns-in-Err-Misused : goal.returns-in-Err-Misused
returns-in-Err-Misused g c = close-misused _ _ _ _ _ c.requires (rw c.in-Err-Misused.field-0-is at c.in-Err-Misused.ensures.told) (rw c.in-Err-Misused.field-0-is at c.in-Err-Misused.ensures.misused)
    c.in-Err-Misused.ensures.keeps

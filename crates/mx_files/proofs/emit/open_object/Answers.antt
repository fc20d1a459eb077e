use Rattle.mx_files.proofs.Causes.{object-absent}
use Rattle.mx_files.proofs.emit.open_object.Goals as goal

pub returns-in-Err-Absent : goal.returns-in-Err-Absent
returns-in-Err-Absent g c =
    object-absent _ _ _ _ _ (rw c.in-Err-Absent.field-0-is at c.in-Err-Absent.ensures.told) (rw c.in-Err-Absent.field-0-is at c.in-Err-Absent.ensures.absent) c.in-Err-Absent.ensures.keeps

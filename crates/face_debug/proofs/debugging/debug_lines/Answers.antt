use Rattle.mx_face.proofs.Faults.{faults-after, faults-told, whole-ended}
use Rattle.face_debug.proofs.debugging.debug_lines.Goals as goal

pub returns-in-Ok : goal.returns-in-Ok
returns-in-Ok g c = faults-after _ _ _ _ _ _ _ c.file_at.ensures.keeps c.debug_gathered.ensures

pub returns-in-Err : goal.returns-in-Err
returns-in-Err g c = faults-told _ _ _ _ _ _ _ _ (whole-ended _ _ _ _ _ c.in-Err.ensures) c.tell.ensures.keeps c.tell.ensures.same

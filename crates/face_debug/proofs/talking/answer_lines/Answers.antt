use Rattle.mx_face.proofs.Parts.{whole-failed-after}
use Rattle.face_debug.proofs.talking.answer_lines.Goals as goal

pub returns-in-Err : goal.returns-in-Err
returns-in-Err g c = whole-failed-after _ _ _ _ _ _ _ c.loop-rest.invariant c.in-Err.ensures

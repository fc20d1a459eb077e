use Rattle.mx_face.proofs.Faults.{faults-after}
use Rattle.face_debug.proofs.debugging.debug_ordered.Goals as goal

pub returns-in-Ok : goal.returns-in-Ok
returns-in-Ok g c = faults-after _ _ _ _ _ _ _ c.gather.ensures.keeps c.debug_lines.ensures

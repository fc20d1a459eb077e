use Rattle.mx_face.proofs.Parts.{part-after}
use Rattle.face_debug.proofs.talking.answer_next.Goals as goal

pub returns-in-Ok-Some : goal.returns-in-Ok-Some
returns-in-Ok-Some g c = part-after _ _ _ _ _ _ _ c.read_line.ensures.keeps c.answer.ensures

use Rattle.mx_face.proofs.Parts.{part-after}
use Rattle.face_debug.proofs.talking.ask.Goals as goal

pub returns-in-Ok : goal.returns-in-Ok
returns-in-Ok g c = part-after _ _ _ _ _ _ _ c.prompt.ensures.keeps c.answer_next.ensures

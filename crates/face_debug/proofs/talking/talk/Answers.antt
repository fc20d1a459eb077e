use Rattle.mx_face.proofs.Faults.{faults-after}
use Rattle.face_debug.proofs.talking.talk.Goals as goal

pub returns-in-Ok : goal.returns-in-Ok
returns-in-Ok g c = faults-after _ _ _ _ _ _ _ c.put_answer.ensures.keeps c.answer_all.ensures

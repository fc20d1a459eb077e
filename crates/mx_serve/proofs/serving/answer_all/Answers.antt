use Rattle.mx_face.proofs.Parts.{whole-failed-after}
use Rattle.mx_serve.proofs.serving.answer_all.Goals as goal

pub returns-in-Err : goal.returns-in-Err
returns-in-Err g c = whole-failed-after _ _ _ _ _ _ _ c.loop-turn.invariant c.in-Err.ensures

use Rattle.mx_face.proofs.Parts.{part-failed-after}
use Rattle.mx_serve.proofs.serving.take_frames.Goals as goal

pub returns-in-Err : goal.returns-in-Err
returns-in-Err g c = part-failed-after _ _ _ _ _ _ _ c.loop-frame.invariant c.in-Err.ensures

use Rattle.mx_face.proofs.Parts.{part-failed-after}
use Rattle.mx_inputs.proofs.reading.files_at.Goals as goal

pub returns-in-Err : goal.returns-in-Err
returns-in-Err g c = part-failed-after _ _ _ _ _ _ _ c.loop-place.invariant c.in-Err.ensures

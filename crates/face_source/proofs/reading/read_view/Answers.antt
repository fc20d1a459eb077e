use Rattle.mx_face.proofs.Faults.{faults-told, part-ended, part-works, whole-ended}
use Rattle.face_source.proofs.reading.read_view.Goals as goal

pub returns-in-Ok-clause-causes : goal.returns-in-Ok-clause-causes
returns-in-Ok-clause-causes g c =
    let was = c.in-Ok.ensures.causes in
    part-works _ _ _ _ _ was.0 was.1 was.3

pub returns-in-Err-clause-causes : goal.returns-in-Err-clause-causes
returns-in-Err-clause-causes g c =
    let was = c.in-Err.ensures.causes in
    part-ended _ _ _ _ _ (faults-told _ _ _ _ _ _ _ _ (whole-ended _ _ _ _ _ (part-works _ _ _ _ _ was.0 was.1 was.3)) c.tell.ensures.keeps c.tell.ensures.same)

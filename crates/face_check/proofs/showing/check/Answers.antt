use Rattle.mx_face.proofs.Faults.{faults-after, whole-ended}
use Rattle.face_check.proofs.showing.check.Goals as goal

pub returns-in-Ok-clause-causes : goal.returns-in-Ok-clause-causes
returns-in-Ok-clause-causes g c = faults-after _ _ _ _ _ _ _ c.in-Ok.ensures.causes.keeps c.show_check.ensures.causes

pub returns-in-Err-clause-causes : goal.returns-in-Err-clause-causes
returns-in-Err-clause-causes g c = whole-ended _ _ _ _ _ c.in-Err.ensures.causes

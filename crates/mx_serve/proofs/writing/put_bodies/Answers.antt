use Rattle.mx_face.proofs.Parts.{part-failed-after}
use Rattle.mx_serve.proofs.writing.put_bodies.Goals as goal

pub returns-in-Err-clause-causes : goal.returns-in-Err-clause-causes
returns-in-Err-clause-causes g c = part-failed-after _ _ _ _ _ _ _ c.loop-rest.invariant.keeps c.in-Err.ensures.causes

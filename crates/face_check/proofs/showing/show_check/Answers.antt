use Rattle.mx_face.proofs.Faults.{faults-said}
use Rattle.face_check.proofs.showing.show_check.Goals as goal

pub returns-in-Ok-clause-causes : goal.returns-in-Ok-clause-causes
returns-in-Ok-clause-causes g c = c.put_page.ensures.causes c.in-Ok.ensures.view

pub returns-in-Err-clause-causes : goal.returns-in-Err-clause-causes
returns-in-Err-clause-causes g c = faults-said _ _ _ _ _ _ (λ e. cc, λ e. cc) c.tell.ensures.keeps c.tell.ensures.same

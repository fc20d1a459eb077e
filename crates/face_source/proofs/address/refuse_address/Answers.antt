use Rattle.mx_face.proofs.Faults.{faults-said}
use Rattle.face_source.proofs.address.refuse_address.Goals as goal

pub returns-clause-causes : goal.returns-clause-causes
returns-clause-causes g c = faults-said _ _ _ _ _ _ (λ e. cc, λ e. cc) c.add_remark.ensures.keeps c.add_remark.ensures.same

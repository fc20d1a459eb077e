use Rattle.mx_face.proofs.Faults.{faults-told}
use Rattle.face_count.proofs.Shown.{lacking-told, onward-as}
use Rattle.face_count.proofs.pages.put_made.Goals as goal

pub returns-in-Ok-clause-onward : goal.returns-in-Ok-clause-onward
returns-in-Ok-clause-onward g c = λ outcome e. onward-as _ _ _ _ _ _ _ (rw c.in-Ok.is at e) c.put_page.ensures.onward

pub returns-in-Err-clause-lacking : goal.returns-in-Err-clause-lacking
returns-in-Err-clause-lacking g c = rw c.in-Err.is (lacking-told _ c.tell.ensures.same)

pub returns-in-Err-clause-onward : goal.returns-in-Err-clause-onward
returns-in-Err-clause-onward g c = λ outcome none start first was. faults-told _ _ _ _ _ _ _ _ was c.tell.ensures.keeps (λ ne. absurd (ne (lacking-told _ c.tell.ensures.same)))

use Rattle.mx_face.proofs.Faults.{faults-after, faults-nowhere, faults-told, whole-ended}
use Rattle.mx_face.proofs.page.put_page.Goals as goal

pub returns-in-Ok-clause-onward : goal.returns-in-Ok-clause-onward
returns-in-Ok-clause-onward g c = λ start first was.
    faults-told _ _ _ _ _ _ _ _ (faults-told _ _ _ _ _ _ _ _ was c.in-Ok.ensures.causes.keeps (λ ne. cc)) c.add_remark.ensures.keeps c.add_remark.ensures.same

pub returns-in-Err-clause-onward : goal.returns-in-Err-clause-onward
returns-in-Err-clause-onward g c = λ start first was.
    faults-after _ _ _ _ _ _ _ was.keeps (faults-told _ _ _ _ _ _ _ _ (whole-ended _ _ _ _ _ c.in-Err.ensures.causes) c.tell.ensures.keeps c.tell.ensures.same)

pub returns-in-Ok-clause-causes : goal.returns-in-Ok-clause-causes
returns-in-Ok-clause-causes g c = λ of.
    faults-told _ _ _ _ _ _ _ _ (faults-told _ _ _ _ _ _ _ _ (faults-nowhere _ _ _ of) c.in-Ok.ensures.causes.keeps (λ ne. cc)) c.add_remark.ensures.keeps c.add_remark.ensures.same

pub returns-in-Err-clause-causes : goal.returns-in-Err-clause-causes
returns-in-Err-clause-causes g c = λ of.
    faults-told _ _ _ _ _ _ _ _ (whole-ended _ _ _ _ _ c.in-Err.ensures.causes) c.tell.ensures.keeps c.tell.ensures.same

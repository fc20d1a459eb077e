use Rattle.mx_face.proofs.Parts.{part-after}
use Rattle.mx_serve.proofs.serving.take_body.Goals as goal

pub returns-in-Ok-Busy : goal.returns-in-Ok-Busy
returns-in-Ok-Busy g c = part-after _ _ _ _ _ _ _ c.put_reply_if.ensures.keeps c.work_on.ensures

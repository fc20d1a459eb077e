use Rattle.mx_face.proofs.Parts.{part-after}
use Rattle.mx_serve.proofs.serving.work.Goals as goal

pub returns-in-Ok : goal.returns-in-Ok
returns-in-Ok g c = part-after _ _ _ _ _ _ _ c.go_on.ensures.keeps c.put_reply.ensures

use Rattle.mx_face.proofs.Parts.{part-after}
use Rattle.mx_serve.proofs.serving.turn.Goals as goal

pub returns-in-Ok : goal.returns-in-Ok
returns-in-Ok g c = part-after _ _ _ _ _ _ _ c.read_piece.ensures.causes.keeps c.take_piece.ensures

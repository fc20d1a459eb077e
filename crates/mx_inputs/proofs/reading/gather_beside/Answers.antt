use Rattle.mx_face.proofs.Parts.{part-after}
use Rattle.mx_inputs.proofs.reading.gather_beside.Goals as goal

pub returns-in-Ok : goal.returns-in-Ok
returns-in-Ok g c = part-after _ _ _ _ _ _ _ c.file_at.ensures.keeps c.gather_files.ensures

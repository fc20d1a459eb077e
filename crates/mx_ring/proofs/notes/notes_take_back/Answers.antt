use Rattle.mx_ring.proofs.TakenBack.{work-back}
use Rattle.mx_ring.proofs.notes.notes_take_back.Goals as goal

pub returns : goal.returns
returns c = work-back

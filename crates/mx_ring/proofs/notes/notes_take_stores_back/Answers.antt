use Rattle.mx_ring.proofs.TakenBack.{store-back}
use Rattle.mx_ring.proofs.notes.notes_take_stores_back.Goals as goal

pub returns : goal.returns
returns c = store-back

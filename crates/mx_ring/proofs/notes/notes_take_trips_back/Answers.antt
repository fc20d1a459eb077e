use Rattle.mx_ring.proofs.TakenBack.{trip-back}
use Rattle.mx_ring.proofs.notes.notes_take_trips_back.Goals as goal

pub returns : goal.returns
returns c = trip-back

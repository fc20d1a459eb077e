use Rattle.mx_ring.proofs.ComesBack.{window-kept, list-kept}
use Rattle.mx_ring.proofs.laws.frames_come_back.Goals as goal

pub returns : goal.returns
returns c = record { ring = window-kept; list = list-kept }

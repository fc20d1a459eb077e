use Rattle.mx_ring.proofs.Keeps.{save-keeps, unsave-keeps}
use Rattle.mx_ring.proofs.laws.frames_keep_rings.Goals as goal

pub returns : goal.returns
returns c = record { save = save-keeps; unsave = unsave-keeps }

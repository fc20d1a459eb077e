use Rattle.mx_ring.proofs.Keeps.{push-keeps, pop-keeps}
use Rattle.mx_ring.proofs.laws.calls_keep_rings.Goals as goal

pub returns : goal.returns
returns c = record { push = push-keeps; pop = pop-keeps }

use Rattle.mx_ring.proofs.Keeps.{set-keeps, cut-keeps, globals-keeps, octa-keeps}
use Rattle.mx_ring.proofs.laws.writes_keep_rings.Goals as goal

pub returns : goal.returns
returns c = record { set = set-keeps; cut = cut-keeps; globals = globals-keeps; stack_octa = octa-keeps }

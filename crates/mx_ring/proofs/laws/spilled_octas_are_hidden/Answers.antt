use Rattle.mx_ring.proofs.Keeps.{marked-hidden}
use Rattle.mx_ring.proofs.laws.spilled_octas_are_hidden.Goals as goal

pub returns : goal.returns
returns c = marked-hidden

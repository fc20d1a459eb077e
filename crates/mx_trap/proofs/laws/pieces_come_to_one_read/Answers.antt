use Rattle.mx_trap.proofs.JoinedReads.{pieces-one}
use Rattle.mx_trap.proofs.laws.pieces_come_to_one_read.Goals as goal

pub returns : goal.returns
returns g c = pieces-one

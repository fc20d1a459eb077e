use Rattle.mx_core.proofs.Octas.Steps.{register-over, special-over, octa-over, address-over}
use Rattle.mx_core.proofs.laws.changes_keep_machines.Goals as goal

pub returns : goal.returns
returns c = record { register = register-over; special = special-over; octa = octa-over; address = address-over }

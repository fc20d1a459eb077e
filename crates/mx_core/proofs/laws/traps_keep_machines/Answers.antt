use Rattle.mx_core.proofs.Octas.Steps.{trapped-over, halted-over, touch-over}
use Rattle.mx_core.proofs.laws.traps_keep_machines.Goals as goal

pub returns : goal.returns
returns c = record { trapped = trapped-over; halted = halted-over; touch = touch-over }

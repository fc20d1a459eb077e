use Rattle.mx_core.proofs.Kept.Machines.{step-touches}
use Rattle.mx_core.proofs.Octas.Steps.{step-over, call-tetra}
use Rattle.mx_core.proofs.laws.steps_keep_machines.Goals as goal

pub returns : goal.returns
returns c = record { machine = step-over; call = call-tetra; touched = step-touches }

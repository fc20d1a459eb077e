use Rattle.mx_ring.proofs.StepsBack.{set-steps, octa-steps}
use Rattle.mx_ring.proofs.notes.notes_take_steps_back.Goals as goal

pub returns : goal.returns
returns c = record { value = set-steps; octa = octa-steps }

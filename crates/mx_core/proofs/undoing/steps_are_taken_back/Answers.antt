use Rattle.mx_core.proofs.Undone.Steps.{over-back}
use Rattle.mx_core.proofs.undoing.steps_are_taken_back.Goals as goal

pub returns : goal.returns
returns c = over-back

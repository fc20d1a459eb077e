use Rattle.mx_load.specs.Kept.{image_of}
use Rattle.mx_core.specs.Kept.{state_of}
use Rattle.mx_begin.proofs.StartedMachines.{started-untouched}
use Rattle.mx_begin.proofs.beginning.start_machine.Goals as goal

pub returns-in-Ok-clause-untouched : goal.returns-in-Ok-clause-untouched
returns-in-Ok-clause-untouched c =
    started-untouched (image_of c.args.image) c.args.arguments.now c.args.ring (state_of c.in-Ok.machine) (c.in-Ok.ensures (λ e. absurd (cc)))

use Rattle.mx_run.proofs.RefusedTraps.{refused-same}
use Rattle.mx_run.proofs.turning.do_trap.Goals as goal

pub returns-clause-same : goal.returns-clause-same
returns-clause-same g c = λ e. refused-same _ _ _ _ _ _ c.machines_are_whole.ensures c.machines_are_whole-2.ensures c.trap-answer.ensures.stops e

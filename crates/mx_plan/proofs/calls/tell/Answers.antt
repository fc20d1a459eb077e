use Rattle.mx_plan.proofs.KeptHosts.{keeps_host-kept}
use Rattle.mx_plan.proofs.calls.tell.Goals as goal

pub returns-clause-keeps : goal.returns-clause-keeps
returns-clause-keeps g c = keeps_host-kept _ _ _ _ c.tell_slot.ensures.keeps

use Rattle.mx_host.proofs.Serving.{read-only}
use Rattle.mx_plan.proofs.KeptHosts.{keeps_host-kept}
use Rattle.mx_plan.proofs.calls.read.Goals as goal

pub returns-clause-keeps : goal.returns-clause-keeps
returns-clause-keeps g c = keeps_host-kept _ _ _ _ c.read_slot.ensures.keeps

pub returns-clause-served : goal.returns-clause-served
returns-clause-served g c = read-only _ _ _ _ _ _ _ _ c.read_slot.ensures.answers c.read_slot.ensures.misused

use Rattle.mx_host.proofs.Serving.{written-only}
use Rattle.mx_plan.proofs.KeptHosts.{keeps_host-kept}
use Rattle.mx_plan.proofs.calls.write.Goals as goal

pub returns-clause-keeps : goal.returns-clause-keeps
returns-clause-keeps g c = keeps_host-kept _ _ _ _ c.write_slot.ensures.keeps

pub returns-clause-served : goal.returns-clause-served
returns-clause-served g c = written-only _ _ _ _ _ _ _ c.write_slot.ensures.answers c.write_slot.ensures.misused

use Rattle.std.proofs.Common.{sym, ◌∙◌, ap}
use Rattle.std.specs.Prelude.{◌==◌}
use Rattle.std.specs.List.{list_any}
use Rattle.mx_host.proofs.FaultCount.{fault_count-rises}
use Rattle.mx_host.proofs.mem.MemHost.count_call.Goals as goal

-- a call that fails is in the list, so the count rises
pub returns-clause-rises : goal.returns-clause-rises
returns-clause-rises c =
    rw (← c.self.view_is)
    (λ h. fault_count-rises c.self.inside.calls c.self.inside.failing.items
    (ap (list_any (λ k. k == c.self.inside.calls)) (sym c.deref.ensures.value) ∙ sym c.contains-fails.ensures.value ∙ h))

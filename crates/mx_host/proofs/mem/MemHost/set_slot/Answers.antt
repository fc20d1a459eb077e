use Rattle.std.proofs.Common.{sym, subst, length}
use Rattle.mx_host.specs.HostModel.{HostModel, Leads}
use Rattle.mx_host.proofs.Names.{IsSound-slot}
use Rattle.mx_host.proofs.mem.MemHost.set_slot.Goals as goal

-- the other slots lead where they led
pub invariant_of-self : goal.invariant_of-self
invariant_of-self c =
    let there : Leads (length c.self.inside.files.items) c.args.to =
    subst (λ (m : HostModel). Leads (length m.files) c.args.to) (sym c.self.view_is) c.requires.leads in
    (c.self.invariant.0, IsSound-slot _ _ _ c.args.to c.self.invariant.1 there)

use Rattle.std.proofs.Common.{◌≡◌, false, sym, ◌∙◌}
use Rattle.mx_ring.proofs.Rings.{set-ring}
use Rattle.mx_registers.specs.Registers.{is_marginal}
use Rattle.mx_ring.specs.RingParts.{window_in}
use Rattle.mx_ring.proofs.ring.Ring.set.Goals as goal

pub invariant_of-self : goal.invariant_of-self
invariant_of-self c =
    let m : is_marginal c.self.inside.visible c.args.k ≡ false = sym c.is_marginal.ensures ∙ c.if-is_marginal.false in
    rw c.set.ensures (set-ring (window_in c.self.inside) c.args.k c.args.x c.self.invariant m)

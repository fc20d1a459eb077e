use Rattle.std.proofs.Common.{◌≤◌, ◌<◌, ◌+◌, length, arith}
use Rattle.mx_ring.proofs.TakenBack.{spill-fits}
use Rattle.mx_ring.proofs.Undone.{octa-spilled, octa-left}
use Rattle.mx_ring.specs.RingParts.{window_in}
use Rattle.mx_ring.proofs.ring.Ring.octa_after_spill.Goals as goal

pub returns-then-i-spilled_count : goal.returns-then-i-spilled_count
returns-then-i-spilled_count c =
    let h = c.self.inside.hidden in
    let few : c.args.count ≤ length h.resident = rw (← c.self.view_is) at c.requires.few in
    let below : c.args.i < h.spilled + c.args.count = omega (arith, c.if-i-spilled_count.true, c.spilled_count.ensures) in
    rw (← c.self.view_is, c.octas.ensures) (octa-spilled h c.args.count c.args.i few (spill-fits (window_in c.self.inside) c.args.count c.self.invariant few) below)

pub returns-else-i-spilled_count : goal.returns-else-i-spilled_count
returns-else-i-spilled_count c =
    let h = c.self.inside.hidden in
    let few : c.args.count ≤ length h.resident = rw (← c.self.view_is) at c.requires.few in
    let above : h.spilled + c.args.count ≤ c.args.i = omega (arith, c.if-i-spilled_count.false, c.spilled_count.ensures) in
    rw (← c.self.view_is, c.octa.ensures) (octa-left h c.args.count c.args.i few (spill-fits (window_in c.self.inside) c.args.count c.self.invariant few) above)

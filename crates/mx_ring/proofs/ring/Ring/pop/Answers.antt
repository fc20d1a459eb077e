use Rattle.std.proofs.Common.{◌≡◌, nat_le, length, sym, ap, ◌∙◌}
use Rattle.mx_ring.proofs.Lists.{popped-list, value-is}
use Rattle.mx_ring.specs.RingParts.{window_in}
use Rattle.mx_ring.specs.Stack.{windowed, as_listed, hole_in, popped}
use Rattle.mx_ring.proofs.ring.Ring.pop.Goals as goal

pub returns-in-Some-clause-list : goal.returns-in-Some-clause-list
unfolding popped
returns-in-Some-clause-list c =
    let w = window_in c.self.inside in
    let hole : c.in-Some.hole ≡ hole_in c.octas.result.now = value-is (nat_le (length c.octas.result.now) (hole_in c.octas.result.now)) c.in-Some.hole (hole_in c.octas.result.now) (sym c.in-Some.is ∙ c.hole.ensures) in
    let e : windowed c.come_back.new.self ≡ popped (windowed w) c.args.x = rw (← c.self.view_is, hole, c.octas.ensures, c.from.ensures) at c.come_back.ensures in
    rw (← c.self.view_is) (ap as_listed e ∙ popped-list w c.args.x c.self.invariant)

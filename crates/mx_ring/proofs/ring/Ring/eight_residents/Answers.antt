use Rattle.std.proofs.Common.{◌≤◌, ◌+◌, length, ap}
use Rattle.mx_ring.specs.RingParts.{window_in}
use Rattle.mx_ring.proofs.CallsBack.{residents-first}
use Rattle.mx_ring.proofs.Rings.{fits-of}
use Rattle.mx_ring.proofs.ring.Ring.eight_residents.Goals as goal

pub returns : goal.returns
returns c =
    let w = window_in c.self.inside in
    let stays : c.args.stays ≤ length w.hidden.resident = rw (← c.self.view_is) at c.requires.stays in
    let few : length w.hidden.resident ≤ c.args.stays + 8 = rw (← c.self.view_is) at c.requires.gone in
    rw (← c.self.view_is) (residents-first w.hidden c.some_from.result.now c.eight_of.result c.args.stays (c.spilled_count.result + c.args.stays) (fits-of w c.self.invariant) stays few (ap (λ n. n + c.args.stays) c.spilled_count.ensures) c.some_from.ensures.octas c.eight_of.ensures)

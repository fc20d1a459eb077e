use Rattle.std.proofs.Common.{◌<◌, length, arith}
use Rattle.std.proofs.lemmas.List.{length-take}
use Rattle.mx_ring.proofs.Rings.{pop-ring}
use Rattle.mx_registers.specs.HiddenPart.{octas_of}
use Rattle.mx_ring.specs.RingParts.{window_in}
use Rattle.mx_ring.proofs.ring.Ring.bring_back.Goals as goal

pub invariant_of-self : goal.invariant_of-self
invariant_of-self c =
    let f : c.args.hole < length (octas_of c.self.inside.hidden) = rw (← c.self.view_is) at c.requires in
    rw (c.keep_first.ensures, c.bring_back.ensures, c.len.ensures.value) (pop-ring (window_in c.self.inside) c.args.hole c.args.x _ c.self.invariant f (simp length-take (omega arith)))

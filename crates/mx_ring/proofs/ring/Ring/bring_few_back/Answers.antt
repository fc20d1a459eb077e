use Rattle.std.proofs.Common.{◌≡◌, ◌<◌, ◌-◌, ◌+◌, length, take, drop, arith, refl}
use Rattle.std.proofs.lemmas.List.{length-take}
use Rattle.mx_ring.proofs.Rings.{pop-ring}
use Rattle.mx_registers.specs.HiddenPart.{octas_of}
use Rattle.mx_ring.specs.RingParts.{window_in}
use Rattle.mx_ring.proofs.ring.Ring.bring_few_back.Goals as goal

pub invariant_of-self : goal.invariant_of-self
invariant_of-self c =
    let f : c.args.hole < length (octas_of c.self.inside.hidden) = rw (← c.self.view_is) at c.requires.hidden in
    rw (c.keep_first.ensures, c.bring_few_back.ensures, c.len.ensures.value) (pop-ring (window_in c.self.inside) c.args.hole c.args.x _ c.self.invariant f (simp length-take (omega arith)))

pub returns : goal.returns
returns c =
    let octas = octas_of c.self.inside.hidden in
    let f : c.args.hole < length octas = rw (← c.self.view_is) at c.requires.hidden in
    let back : take c.args.hole c.some_from.result.now ≡ take c.args.hole (drop (c.len.result - (c.args.hole + 1)) octas) =
    c.some_from.ensures.octas c.args.hole (omega arith) (omega (arith, c.len.ensures.value, f)) in
    rw (← c.self.view_is, c.keep_first.ensures, c.bring_few_back.ensures, back, c.len.ensures.value) refl

use Rattle.std.proofs.Common.{◌≡◌, ◌≤◌, ◌+◌, ◌^◌, ◌∷◌, [], ◌++◌, length, ◌∙◌, ap}
use Rattle.std.proofs.lemmas.List.{length_push}
use Rattle.mx_ring.proofs.Rings.{push-ring, length-below}
use Rattle.mx_registers.specs.HiddenPart.{octas_of}
use Rattle.mx_registers.specs.Registers.{registers_below}
use Rattle.mx_ring.specs.RingParts.{window_in}
use Rattle.mx_ring.proofs.ring.Ring.hide.Goals as goal

pub invariant_of-self : goal.invariant_of-self
invariant_of-self c =
    let octas = registers_below c.self.inside.visible c.args.count ++ c.args.count ∷ [] in
    let f : length (octas_of c.self.inside.hidden) + (c.args.count + 1) ≤ 2 ^ 20 = rw (← c.self.view_is) at c.requires.room in
    let size : length octas ≡ c.args.count + 1 = length_push (registers_below c.self.inside.visible c.args.count) c.args.count ∙ ap (λ n. n + 1) (length-below c.self.inside.visible c.args.count) in
    rw (c.make_room.ensures, c.local_count.ensures.value, c.drop_first.ensures, c.hide_below.ensures) (push-ring (window_in c.self.inside) c.args.count octas c.self.invariant size f)

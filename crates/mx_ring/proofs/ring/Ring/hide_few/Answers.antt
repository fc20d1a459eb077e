use Rattle.std.proofs.Common.{arith, ◌≡◌, ◌≤◌, ◌+◌, ◌^◌, ◌∷◌, [], ◌++◌, length, sym, ◌∙◌, ap}
use Rattle.std.proofs.lemmas.List.{length_push}
use Rattle.mx_ring.proofs.Rings.{push-ring, push-within, length-below}
use Rattle.mx_registers.specs.HiddenPart.{HiddenPart, octas_of}
use Rattle.mx_registers.specs.Registers.{registers_below, registers_from}
use Rattle.mx_ring.specs.RingParts.{window_in}
use Rattle.mx_ring.specs.Stack.{windowed}
use Rattle.mx_ring.proofs.ring.Ring.hide_few.Goals as goal

pub invariant_of-self : goal.invariant_of-self
invariant_of-self c =
    let w = window_in c.self.inside in
    let octas = registers_below w.visible c.args.count ++ c.args.count ∷ [] in
    let room : length (octas_of w.hidden) + c.args.size ≤ 2 ^ 20 = rw (← c.self.view_is) at c.requires.room in
    let ring : length w.hidden.resident + c.args.size ≤ 255 = rw (← c.self.view_is) at c.requires.ring in
    let few : length w.visible.locals ≤ c.args.size = rw (← c.self.view_is) at c.requires.few in
    let size : length octas ≡ c.args.count + 1 = length_push (registers_below w.visible c.args.count) c.args.count ∙ ap (λ n. n + 1) (length-below w.visible c.args.count) in
    let f : length (octas_of w.hidden) + (c.args.count + 1) ≤ 2 ^ 20 = omega (arith, room, c.requires.count) in
    let none = push-within w c.args.count c.args.size octas c.self.invariant size c.requires.count ring few in
    rw (c.drop_first_fewer.ensures, c.hide_few_below.ensures) (rw none at (push-ring w c.args.count octas c.self.invariant size f))

pub returns : goal.returns
returns c =
    let w = window_in c.self.inside in
    let octas = registers_below w.visible c.args.count ++ c.args.count ∷ [] in
    let ring : length w.hidden.resident + c.args.size ≤ 255 = rw (← c.self.view_is) at c.requires.ring in
    let few : length w.visible.locals ≤ c.args.size = rw (← c.self.view_is) at c.requires.few in
    let size : length octas ≡ c.args.count + 1 = length_push (registers_below w.visible c.args.count) c.args.count ∙ ap (λ n. n + 1) (length-below w.visible c.args.count) in
    let none = push-within w c.args.count c.args.size octas c.self.invariant size c.requires.count ring few in
    rw (← c.self.view_is, c.drop_first_fewer.ensures, c.hide_few_below.ensures) (ap (λ (h : HiddenPart). windowed (record { size = w.size; hidden = h; visible = registers_from w.visible (c.args.count + 1) })) (sym none))

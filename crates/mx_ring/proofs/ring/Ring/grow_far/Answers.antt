use Rattle.std.proofs.Common.{◌≡◌, ◌≤◌, ◌+◌, ◌^◌, length, true, arith, ap, ◌∙◌}
use Rattle.mx_ring.proofs.Lists.{grown-is, register-list}
use Rattle.mx_ring.proofs.Rings.{grow-ring, grown-count}
use Rattle.mx_registers.specs.HiddenPart.{octas_of}
use Rattle.mx_registers.specs.Registers.{is_marginal, with_value}
use Rattle.mx_ring.specs.RingParts.{window_in}
use Rattle.mx_ring.specs.Stack.{as_listed}
use Rattle.mx_ring.proofs.ring.Ring.grow_far.Goals as goal

pub invariant_of-self : goal.invariant_of-self
invariant_of-self c =
    let i = c.self.inside in
    let m : is_marginal i.visible c.args.k ≡ true = rw (← c.self.view_is) at c.requires in
    let f : length (octas_of i.hidden) + (c.args.k + 1) ≤ 2 ^ 20 = omega arith in
    let count : c.from-2.result + 1 ≡ length (with_value i.visible c.args.k c.args.x).locals = omega (arith, grown-count i.visible c.args.k c.args.x m) in
    rw (c.make_room.ensures, count, c.add.ensures) (grow-ring (window_in i) c.args.k c.args.x c.self.invariant m f)

pub returns-clause-ok : goal.returns-clause-ok
returns-clause-ok c =
    let m : is_marginal c.self.inside.visible c.args.k ≡ true = rw (← c.self.view_is) at c.requires in
    rw (← c.self.view_is) (grown-is (window_in c.self.inside) c.args.k c.args.x c.from-2.result _ _ m c.from-2.ensures c.add.ensures c.make_room.ensures)

pub returns-clause-list : goal.returns-clause-list
returns-clause-list c =
    let w = window_in c.self.inside in
    let m : is_marginal c.self.inside.visible c.args.k ≡ true = rw (← c.self.view_is) at c.requires in
    rw (← c.self.view_is) (ap as_listed (grown-is w c.args.k c.args.x c.from-2.result _ _ m c.from-2.ensures c.add.ensures c.make_room.ensures) ∙ register-list w c.args.k c.args.x c.self.invariant)

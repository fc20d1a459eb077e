use Rattle.std.proofs.Common.{◌≡◌, ◌+◌, true, arith, sym, ap, ◌∙◌}
use Rattle.mx_ring.proofs.Lists.{grown-within, register-list}
use Rattle.mx_registers.specs.Registers.{is_marginal}
use Rattle.mx_ring.specs.RingParts.{window_in}
use Rattle.mx_ring.specs.Stack.{as_listed}
use Rattle.mx_ring.proofs.ring.Ring.grow.Goals as goal

pub invariant_of-self : goal.invariant_of-self
invariant_of-self c =
    let m : is_marginal c.self.inside.visible c.args.k ≡ true = rw (← c.self.view_is) at c.requires in
    (grown-within (window_in c.self.inside) c.args.k c.args.x (c.from.result + 1) c.add.new.self c.self.invariant m (omega (arith, c.from.ensures)) c.add.ensures (sym c.has_room.ensures ∙ c.if-has_room.true)).0

pub returns-then-has_room-clause-ok : goal.returns-then-has_room-clause-ok
returns-then-has_room-clause-ok c =
    let m : is_marginal c.self.inside.visible c.args.k ≡ true = rw (← c.self.view_is) at c.requires in
    rw (← c.self.view_is) ((grown-within (window_in c.self.inside) c.args.k c.args.x (c.from.result + 1) c.add.new.self c.self.invariant m (omega (arith, c.from.ensures)) c.add.ensures (sym c.has_room.ensures ∙ c.if-has_room.true)).1)

pub returns-then-has_room-clause-list : goal.returns-then-has_room-clause-list
returns-then-has_room-clause-list c =
    let w = window_in c.self.inside in
    let m : is_marginal c.self.inside.visible c.args.k ≡ true = rw (← c.self.view_is) at c.requires in
    let e = (grown-within w c.args.k c.args.x (c.from.result + 1) c.add.new.self c.self.invariant m (omega (arith, c.from.ensures)) c.add.ensures (sym c.has_room.ensures ∙ c.if-has_room.true)).1 in
    rw (← c.self.view_is) (ap as_listed e ∙ register-list w c.args.k c.args.x c.self.invariant)

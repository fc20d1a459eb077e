use Rattle.std.proofs.Common.{◌<◌, ◌∙◌, ap, arith, length, map, subst, sym}
use Rattle.mx_core.specs.Kept.{state_of}
use Rattle.mx_multi.specs.Seats.{IsSeated, Seated, seated_by}
use Rattle.mx_multi.proofs.Seating.{moved, moved-apart}
use Rattle.mx_multi.proofs.TurnComes.{kept-inside}
use Rattle.mx_multi.proofs.seats.Seats.seat.Goals as goal

pub returns-clause-same : goal.returns-clause-same
returns-clause-same c =
    let there = subst (λ (p : Seated). c.args.who < length p.machines) (sym c.self.view_is) c.requires in
    rw (← c.self.view_is)
    (ap (λ ss. seated_by ss c.self.inside.halted.items c.args.who) c.exchange.ensures.states
    ∙ moved (map state_of c.self.inside.machines.items) c.self.inside.halted.items c.self.inside.at (kept-inside _ _ c.self.invariant.1) c.args.who (kept-inside _ _ there) c.if-who-self.false c.self.invariant.2)

pub invariant_of-self : goal.invariant_of-self
invariant_of-self c =
    let there = subst (λ (p : Seated). c.args.who < length p.machines) (sym c.self.view_is) c.requires in
    let count = c.exchange.ensures.count in (
      c.self.invariant.0 ∙ sym count,
      omega (arith, count, there),
      subst (λ ss. IsSeated ss c.args.who) (sym c.exchange.ensures.states)
          (moved-apart (map state_of c.self.inside.machines.items) c.self.inside.halted.items c.self.inside.at (kept-inside _ _ c.self.invariant.1) c.args.who (kept-inside _ _ there) c.if-who-self.false c.self.invariant.2),
    )

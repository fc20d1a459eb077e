use Rattle.std.proofs.Common.{◌≡◌, ◌∙◌, arith, false, map, subst, sym}
use Rattle.mx_core.specs.Kept.{state_of}
use Rattle.mx_multi.specs.Joint.{has_halted}
use Rattle.mx_multi.specs.Seats.{Seated}
use Rattle.mx_multi.proofs.Seating.{seat-takes, still-apart}
use Rattle.mx_multi.proofs.TurnComes.{kept-inside}
use Rattle.mx_multi.proofs.seats.Seats.turn_here.Goals as goal

pub returns-clause-turn : goal.returns-clause-turn
returns-clause-turn g c =
    let runs = subst (λ (p : Seated). has_halted p.halted p.at ≡ false) (sym c.self.view_is) c.requires in
    let e = c.turn_at-answer.ensures in
    rw (← c.self.view_is, c.mark.ensures.flags)
    (seat-takes (map state_of c.self.inside.machines.items) (map state_of c.turn_at-answer.new.machines.items) c.self.inside.halted.items c.self.inside.at (kept-inside _ _ c.self.invariant.1) c.self.invariant.2
    e.placed runs _ _ _ _ c.turn_at-answer.result e.turn)

pub invariant_of-self : goal.invariant_of-self
invariant_of-self g c =
    let runs = subst (λ (p : Seated). has_halted p.halted p.at ≡ false) (sym c.self.view_is) c.requires in
    let e = c.turn_at-answer.ensures in
    let count = e.count in
    let inside = c.self.invariant.1 in (
      c.mark.ensures.count ∙ c.self.invariant.0 ∙ sym count,
      omega (arith, count, inside),
      still-apart (map state_of c.self.inside.machines.items) (map state_of c.turn_at-answer.new.machines.items) c.self.inside.halted.items c.self.inside.at (kept-inside _ _ inside) c.self.invariant.2 e.placed runs,
    )

use Rattle.std.proofs.Common.{◌≡◌, ◌∙◌, arith, false, map, subst, sym}
use Rattle.mx_core.specs.Kept.{state_of}
use Rattle.mx_multi.specs.Joint.{has_halted}
use Rattle.mx_multi.specs.Seats.{Seated}
use Rattle.mx_multi.proofs.Seating.{seat-goes, still-apart}
use Rattle.mx_multi.proofs.TurnComes.{kept-inside}
use Rattle.mx_multi.proofs.seats.Seats.walk_here.Goals as goal

pub returns-clause-turns : goal.returns-clause-turns
returns-clause-turns c =
    let runs = subst (λ (p : Seated). has_halted p.halted p.at ≡ false) (sym c.self.view_is) c.requires in
    rw (← c.self.view_is)
    (seat-goes (map state_of c.self.inside.machines.items) (map state_of c.walk_at.new.machines.items) c.self.inside.halted.items c.self.inside.at (kept-inside _ _ c.self.invariant.1) c.self.invariant.2
    c.walk_at.ensures.placed runs c.walk_at.result c.walk_at.ensures.goes)

pub invariant_of-self : goal.invariant_of-self
invariant_of-self c =
    let runs = subst (λ (p : Seated). has_halted p.halted p.at ≡ false) (sym c.self.view_is) c.requires in
    let count = c.walk_at.ensures.count in
    let inside = c.self.invariant.1 in (
      c.self.invariant.0 ∙ sym count,
      omega (arith, count, inside),
      still-apart (map state_of c.self.inside.machines.items) (map state_of c.walk_at.new.machines.items) c.self.inside.halted.items c.self.inside.at (kept-inside _ _ inside) c.self.invariant.2 c.walk_at.ensures.placed runs,
    )

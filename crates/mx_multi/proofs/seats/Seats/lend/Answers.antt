use Rattle.std.proofs.Common.{◌∙◌, ap, arith, map, subst, sym}
use Rattle.mx_core.specs.Bare.{shared_in}
use Rattle.mx_core.specs.Kept.{state_of}
use Rattle.mx_multi.specs.Joint.{AllAlone}
use Rattle.mx_multi.specs.Seats.{IsSeated, Seated, seated_by}
use Rattle.mx_multi.proofs.Places.{alone-at}
use Rattle.mx_multi.proofs.Seating.{lent, lent-apart}
use Rattle.mx_multi.proofs.TurnComes.{kept-inside}
use Rattle.mx_multi.proofs.seats.Seats.lend.Goals as goal

pub returns-clause-joint : goal.returns-clause-joint
returns-clause-joint c =
    let apart = subst (λ (p : Seated). AllAlone (map state_of p.machines)) (sym c.self.view_is) c.requires in
    rw (← c.self.view_is)
    (ap (λ ss. seated_by ss c.self.inside.halted.items c.self.inside.at) c.swap_at.ensures.machines
    ∙ lent (map state_of c.self.inside.machines.items) c.self.inside.halted.items c.self.inside.at (kept-inside _ _ c.self.invariant.1) (shared_in c.args.memory.now) apart)

pub returns-clause-memory : goal.returns-clause-memory
returns-clause-memory c =
    let apart = subst (λ (p : Seated). AllAlone (map state_of p.machines)) (sym c.self.view_is) c.requires in
    c.swap_at.ensures.memory ∙ alone-at _ _ _ (kept-inside _ _ c.self.invariant.1) apart

pub invariant_of-self : goal.invariant_of-self
invariant_of-self c =
    let apart = subst (λ (p : Seated). AllAlone (map state_of p.machines)) (sym c.self.view_is) c.requires in
    let count = c.swap_at.ensures.count in
    let inside = c.self.invariant.1 in (
      c.self.invariant.0 ∙ sym count,
      omega (arith, count, inside),
      subst (λ ss. IsSeated ss c.self.inside.at) (sym c.swap_at.ensures.machines)
          (lent-apart (map state_of c.self.inside.machines.items) c.self.inside.halted.items c.self.inside.at (kept-inside _ _ inside) (shared_in c.args.memory.now) apart),
    )

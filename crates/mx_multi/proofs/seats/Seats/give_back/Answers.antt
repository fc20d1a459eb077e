use Rattle.std.proofs.Common.{◌∙◌, arith, map, sym}
use Rattle.mx_core.specs.Kept.{state_of}
use Rattle.mx_multi.proofs.Seating.{given-apart, given-back, still-alone}
use Rattle.mx_multi.proofs.seats.Seats.give_back.Goals as goal

pub returns-clause-joint : goal.returns-clause-joint
returns-clause-joint c =
    rw (← c.self.view_is)
    (given-back (map state_of c.self.inside.machines.items) c.self.inside.halted.items c.self.inside.at _ _ _ c.swap_at.ensures.machines c.requires c.swap_at.ensures.memory)

pub returns-clause-apart : goal.returns-clause-apart
returns-clause-apart c = given-apart (map state_of c.self.inside.machines.items) c.self.inside.at _ _ c.swap_at.ensures.machines c.requires c.self.invariant.2

pub invariant_of-self : goal.invariant_of-self
invariant_of-self c =
    let count = c.swap_at.ensures.count in
    let inside = c.self.invariant.1 in (
      c.self.invariant.0 ∙ sym count,
      omega (arith, count, inside),
      still-alone _ _ (given-apart (map state_of c.self.inside.machines.items) c.self.inside.at _ _ c.swap_at.ensures.machines c.requires c.self.invariant.2),
    )

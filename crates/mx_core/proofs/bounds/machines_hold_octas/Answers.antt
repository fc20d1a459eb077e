use Rattle.std.proofs.Common.{subst, sym}
use Rattle.mx_core.specs.Bounds.{IsMachine}
use Rattle.mx_core.specs.Kept.{Kept, state_of}
use Rattle.mx_core.specs.Machines.{IsOverWindow}
use Rattle.mx_core.specs.Way.Parts.{kept}
use Rattle.mx_core.proofs.Octas.Held.{HoldsAll, held-octas}
use Rattle.mx_core.proofs.bounds.machines_hold_octas.Goals as goal

pub returns : goal.returns
returns c =
    let ring : HoldsAll c.machine.inside.ring = record {
      locals = c.know_octas.ensures.locals;
      globals = c.know_octas.ensures.globals;
      resident = c.know_octas.ensures.resident;
      area = c.know_octas.ensures.area;
    } in
    let machine = c.machines_keep_the_invariant.ensures in
    subst (λ (k : Kept). IsOverWindow (state_of k)) c.machine.view_is
    (held-octas (kept c.machine.inside) (subst (λ (k : Kept). IsMachine (state_of k) k.ring) (sym c.machine.view_is) machine) ring c.know_octas-2.ensures c.machine.invariant.0 c.pages.ensures.octas c.know_octa.ensures)

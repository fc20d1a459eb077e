use Rattle.std.proofs.Common.{arith, ap, ◌∙◌}
use Rattle.mx_ring.specs.Notes.{RingWas}
use Rattle.mx_core.specs.Kept.{Kept}
use Rattle.mx_core.proofs.Undone.Notes.{noted_spilled}
use Rattle.mx_core.proofs.machine.Machine.whole_note.Goals as goal

pub invariant_of-result : goal.invariant_of-result
invariant_of-result c =
    let spilled = ap (λ (n : RingWas). n.spilled) c.in-Ok.ensures.note ∙ noted_spilled c.args.work _ _ _ in
    let same = ap (λ (k : Kept). k.ring.hidden.spilled) c.self.view_is in
    let before = ap (λ (k : Kept). k.ring.hidden.spilled) c.in-Ok.ensures.same in
    (c.self.invariant.0, c.self.invariant.1, λ t. let most = c.self.invariant.2 t in omega (arith, most, spilled, same, before))

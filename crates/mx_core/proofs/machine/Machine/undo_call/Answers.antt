use Rattle.std.proofs.Common.{◌≡◌, false, arith, subst, ap, ◌∙◌}
use Rattle.mx_ring.specs.Window.{Window}
use Rattle.mx_core.specs.Kept.{Kept, state_of}
use Rattle.mx_core.proofs.Undone.Notes.{undone_spilled}
use Rattle.mx_core.proofs.machine.Machine.undo_call.Goals as goal

pub invariant_of-self : goal.invariant_of-self
unfolding state_of
invariant_of-self c =
    let spilled = ap (λ (w : Window). w.hidden.spilled) c.undo_call.ensures ∙ undone_spilled _ _ in
    (c.self.invariant.0, c.requires.pc, λ t. let most = c.requires.mark (subst (λ (k : Kept). k.touched ≡ false) c.self.view_is t) in omega (arith, most, spilled))

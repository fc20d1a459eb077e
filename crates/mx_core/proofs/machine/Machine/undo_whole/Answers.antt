use Rattle.std.proofs.Common.{arith, ap, ◌∙◌}
use Rattle.mx_ring.specs.Window.{Window}
use Rattle.mx_core.proofs.Undone.Notes.{undone_spilled}
use Rattle.mx_core.proofs.machine.Machine.undo_whole.Goals as goal

pub invariant_of-self : goal.invariant_of-self
invariant_of-self c =
    let spilled = ap (λ (w : Window). w.hidden.spilled) c.undo.ensures ∙ undone_spilled _ _ in
    (c.note.invariant.0, c.note.invariant.1, λ t. let most = c.note.invariant.2 t in omega (arith, most, spilled))

pub invariant_of-self-else-was : goal.invariant_of-self-else-was
invariant_of-self-else-was c =
    let spilled = ap (λ (w : Window). w.hidden.spilled) c.undo.ensures ∙ undone_spilled _ _ in
    (c.note.invariant.0, c.note.invariant.1, λ t. let most = c.note.invariant.2 t in omega (arith, most, spilled))

pub invariant_of-self-in-None : goal.invariant_of-self-in-None
invariant_of-self-in-None c =
    let spilled = ap (λ (w : Window). w.hidden.spilled) c.undo.ensures ∙ undone_spilled _ _ in
    (c.note.invariant.0, c.note.invariant.1, λ t. let most = c.note.invariant.2 t in omega (arith, most, spilled))

use Rattle.mx_core.proofs.Kept.Marks.{cut_marks}
use Rattle.mx_core.proofs.machine.Machine.undo_overwritten.Goals as goal

pub invariant_of-self : goal.invariant_of-self
invariant_of-self c = (c.self.invariant.0, c.self.invariant.1, λ t. cut_marks _ _ _ _ c.cut_locals.ensures.window (c.self.invariant.2 t))

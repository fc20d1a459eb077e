use Rattle.mx_core.proofs.Kept.Marks.{cut_marks, globals_marks}
use Rattle.mx_core.proofs.machine.Machine.put_stored.Goals as goal

pub invariant_of-self : goal.invariant_of-self
invariant_of-self c = (c.self.invariant.0, c.self.invariant.1, λ t. globals_marks _ _ _ _ c.set_global_start.ensures.window (c.self.invariant.2 t))

pub invariant_of-self-in-20 : goal.invariant_of-self-in-20
invariant_of-self-in-20 c = (c.self-in-20.invariant.0, c.self-in-20.invariant.1, λ t. cut_marks _ _ _ _ c.cut_locals.ensures.window (c.self-in-20.invariant.2 t))

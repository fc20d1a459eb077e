use Rattle.mx_core.proofs.Kept.Marks.{octa_marks}
use Rattle.mx_core.proofs.machine.Machine.store_octa.Goals as goal

pub invariant_of-self : goal.invariant_of-self
invariant_of-self c = (c.self.invariant.0, c.self.invariant.1, λ t. octa_marks _ _ _ _ _ c.set_stack_octa.ensures (c.self.invariant.2 t))

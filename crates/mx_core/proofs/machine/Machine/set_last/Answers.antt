use Rattle.mx_core.proofs.Kept.Marks.{set_keeps}
use Rattle.mx_core.proofs.machine.Machine.set_last.Goals as goal

pub invariant_of-self : goal.invariant_of-self
invariant_of-self c = (c.self.invariant.0, c.self.invariant.1, λ t. set_keeps c.set.result c.self.inside.ring c.set.new.self 255 c.args.x _ c.set.ensures.ok c.set.ensures.err (c.self.invariant.2 t))

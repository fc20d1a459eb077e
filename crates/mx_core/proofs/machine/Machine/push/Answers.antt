use Rattle.mx_core.proofs.Kept.Marks.{push_keeps}
use Rattle.mx_core.proofs.machine.Machine.push.Goals as goal

pub invariant_of-self : goal.invariant_of-self
invariant_of-self c = (c.self.invariant.0, c.self.invariant.1, λ t. push_keeps c.push.result c.self.inside.ring c.push.new.self c.args.x _ c.push.ensures.ok c.push.ensures.err (c.self.invariant.2 t))

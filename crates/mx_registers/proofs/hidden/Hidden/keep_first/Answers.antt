use Rattle.std.proofs.Common.{arith}
use Rattle.mx_registers.proofs.Octas.{first-in-list}
use Rattle.mx_registers.proofs.hidden.Hidden.keep_first.Goals as goal

pub returns-then-n-self : goal.returns-then-n-self
returns-then-n-self c =
    rw (← c.self.view_is, c.truncate.ensures.octas) (first-in-list c.self.inside.stack c.self.inside.list.octas c.self.inside.spilled c.args.n c.args.n (omega (arith, c.if-n-self.true)))

pub returns-else-n-self : goal.returns-else-n-self
returns-else-n-self c =
    rw (← c.self.view_is, c.truncate.ensures.octas) (first-in-list c.self.inside.stack c.self.inside.list.octas c.self.inside.spilled c.args.n c.self.inside.spilled (omega (arith, c.if-n-self.false)))

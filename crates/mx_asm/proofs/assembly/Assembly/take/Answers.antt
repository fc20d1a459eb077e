use Rattle.std.proofs.Common.{sym}
use Rattle.mx_asm.proofs.Words.{no_targets, statement_tree}
use Rattle.mx_asm.proofs.StatementForms.{encoding-placed}
use Rattle.mx_asm.proofs.assembly.Assembly.take.Goals as goal

pub settle-requires-clause-placed : goal.settle-requires-clause-placed
settle-requires-clause-placed c =
    rw (← c.self.view_is) (encoding-placed no_targets (record { names = c.self.inside.names.names; at = c.self.inside.at; gregs = c.self.inside.gregs }) (statement_tree c.args.s.now) c.in-Ok.placed c.self.invariant.0 c.self.invariant.1 (sym (c.in-Ok.ensures.placed (λ memory. cc))))

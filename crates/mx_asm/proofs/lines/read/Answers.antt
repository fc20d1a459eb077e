use Rattle.mx_stmt.specs.Encoding.{statement_tree}
use Rattle.mx_asm.proofs.ReadEntries.{entry-read}
use Rattle.mx_asm.proofs.lines.read.Goals as goal

pub returns-in-Ok-clause-entry : goal.returns-in-Ok-clause-entry
returns-in-Ok-clause-entry c = λ memory. entry-read c.args.line c.args.text.now c.args.cut.now (statement_tree c.in-Ok.s) c.in-Ok.ensures.read

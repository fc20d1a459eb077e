use Rattle.mx_line.proofs.RuleLaws.{no-other}
use Rattle.mx_line.proofs.cutter.next_statement.Goals as goal

pub returns-clause-only : goal.returns-clause-only
returns-clause-only c = λ found h. no-other _ _ _ _ c.statement_of.ensures h

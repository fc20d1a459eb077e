use Rattle.std.proofs.Common.{sym, ◌∙◌}
use Rattle.mx_top.proofs.Saying.{said-none, said-written, said-lacking, empty-text, filled-text}
use Rattle.mx_top.proofs.top.write_line.Goals as goal

pub returns-then-is_empty-clause-plan : goal.returns-then-is_empty-clause-plan
returns-then-is_empty-clause-plan g c = said-none _ _ _ (empty-text _ c.if-is_empty.ensures)

pub returns-then-is_lacking-clause-plan : goal.returns-then-is_lacking-clause-plan
returns-then-is_lacking-clause-plan g c = said-lacking _ _ _ _ _ (filled-text _ c.if-is_empty.ensures) (sym c.is_lacking.ensures ∙ c.if-is_lacking.true) c.write_error.ensures.plan

pub returns-clause-plan : goal.returns-clause-plan
returns-clause-plan g c = said-written _ _ _ _ _ (filled-text _ c.if-is_empty.ensures) (sym c.is_lacking.ensures ∙ c.if-is_lacking.false) c.write_error.ensures.plan

pub returns-then-is_lacking-clause-keeps : goal.returns-then-is_lacking-clause-keeps
returns-then-is_lacking-clause-keeps g c = c.write_error.ensures.keeps

pub returns-clause-keeps : goal.returns-clause-keeps
returns-clause-keeps g c = c.write_error.ensures.keeps

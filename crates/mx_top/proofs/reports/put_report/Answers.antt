use Rattle.mx_top.proofs.Saying.{report-none, report-written, empty-text, filled-text}
use Rattle.mx_top.proofs.reports.put_report.Goals as goal

pub returns-then-is_empty-clause-plan : goal.returns-then-is_empty-clause-plan
returns-then-is_empty-clause-plan g c = report-none _ _ (empty-text _ c.if-is_empty.ensures)

pub returns-clause-plan : goal.returns-clause-plan
returns-clause-plan g c = report-written _ _ _ _ (filled-text _ c.if-is_empty.ensures) c.write_error.ensures.plan

pub returns-clause-keeps : goal.returns-clause-keeps
returns-clause-keeps g c = c.write_error.ensures.keeps

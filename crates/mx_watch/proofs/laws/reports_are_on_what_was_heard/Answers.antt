use Rattle.mx_watch.proofs.HeardFronts.{heard-all, heard-front, report-heard}
use Rattle.mx_watch.proofs.laws.reports_are_on_what_was_heard.Goals as goal

pub returns-clause-all : goal.returns-clause-all
returns-clause-all c = heard-all

pub returns-clause-front : goal.returns-clause-front
returns-clause-front c = heard-front

pub returns-clause-reports : goal.returns-clause-reports
returns-clause-reports c = report-heard

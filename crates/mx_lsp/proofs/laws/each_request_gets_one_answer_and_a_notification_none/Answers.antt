use Rattle.mx_lsp.proofs.Once.{body-sends}
use Rattle.mx_lsp.proofs.laws.each_request_gets_one_answer_and_a_notification_none.Goals as goal

pub returns : goal.returns
returns c = body-sends

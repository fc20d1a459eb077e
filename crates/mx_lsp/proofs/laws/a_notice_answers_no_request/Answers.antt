use Rattle.mx_lsp.proofs.Once.{notice-no-answer}
use Rattle.mx_lsp.proofs.laws.a_notice_answers_no_request.Goals as goal

pub returns : goal.returns
returns c = notice-no-answer

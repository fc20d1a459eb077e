use Rattle.mx_lsp.proofs.Once.{all-answered}
use Rattle.mx_lsp.proofs.laws.answers_come_in_the_order_of_requests.Goals as goal

pub returns : goal.returns
returns c = all-answered

use Rattle.mx_lsp.proofs.Carried.{mark-carried}
use Rattle.mx_lsp.proofs.laws.an_answer_carries_the_mark_of_its_request.Goals as goal

pub returns : goal.returns
returns c = mark-carried

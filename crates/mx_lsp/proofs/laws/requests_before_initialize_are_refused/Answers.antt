use Rattle.mx_lsp.proofs.Stages.{refused-before}
use Rattle.mx_lsp.proofs.laws.requests_before_initialize_are_refused.Goals as goal

pub returns : goal.returns
returns c = refused-before

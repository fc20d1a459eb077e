use Rattle.mx_lsp.proofs.Stages.{refused-after}
use Rattle.mx_lsp.proofs.laws.requests_after_shutdown_are_refused.Goals as goal

pub returns : goal.returns
returns c = refused-after

use Rattle.std.proofs.Common.{◌≡◌, IfOk, List, ℕ, subst}
use Rattle.mx_lsp.proofs.Stages.{waiting-else}
use Rattle.mx_lsp.proofs.requests.answer_waiting.Goals as goal

pub returns-in_default : goal.returns-in_default
returns-in_default c =
    subst (λ (text : List ℕ). IfOk c.refusal_of.result (λ body. body ≡ text)) (waiting-else c.args.id.now c.args.method c.in_default.not-Initialize) c.refusal_of.ensures

use Rattle.std.proofs.Common.{◌≡◌, List, ℕ, subst, ◌∙◌}
use Rattle.std.specs.Prelude.{IfOk}
use Rattle.mx_hover.proofs.Texts.{told, untold}
use Rattle.mx_hover.proofs.meaning.meaning.Goals as goal

pub returns-in-Ok : goal.returns-in-Ok
returns-in-Ok c =
    subst (λ (t : List ℕ). IfOk c.explain_word.result (λ text. text ≡ t)) (told c.args.word.now c.in-Ok.word.now c.in-Ok.ensures.cases.0 c.in-Ok.ensures.cases.1) c.explain_word.ensures

pub returns-in-Err : goal.returns-in-Err
returns-in-Err c = c.new.ensures ∙ untold c.args.word.now c.in-Err.ensures.cases.0

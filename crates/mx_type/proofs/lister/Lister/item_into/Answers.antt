use Rattle.std.proofs.Common.{arith}
use Rattle.std.proofs.lemmas.Grind.{common_steps}
use Rattle.mx_type.proofs.Listed.{joined-more}
use Rattle.mx_type.proofs.lister.Lister.item_into.Goals as goal

pub returns-clause-joined : goal.returns-clause-joined
returns-clause-joined c = λ items lines had.
    joined-more c.args.self.now c.lambda_after-self-inside.result c.args.item.now c.add_item.new.text items lines
    (cc (c.lambda_after-self-inside.ensures, c.self.view_is)) (grind (arith, common_steps)) had

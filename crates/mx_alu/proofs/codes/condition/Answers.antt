use Rattle.std.proofs.Common.{get_or, ◌∙◌, ap}
use Rattle.mx_alu.proofs.Words.{CONDITIONS, Negative}
use Rattle.mx_alu.proofs.Named.{condition-at}
use Rattle.mx_alu.proofs.codes.condition.Goals as goal

pub returns : goal.returns
returns c = ap (λ p. get_or CONDITIONS p Negative) c.from.ensures ∙ condition-at c.args.code c.requires.low c.requires.high

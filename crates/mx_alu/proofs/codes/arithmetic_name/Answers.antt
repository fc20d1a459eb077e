use Rattle.std.proofs.Common.{◌/◌, get_or, ◌∙◌, ap}
use Rattle.mx_alu.proofs.Words.{ARITHMETIC, Mul}
use Rattle.mx_alu.proofs.Named.{arithmetic-at}
use Rattle.mx_alu.proofs.codes.arithmetic_name.Goals as goal

pub returns : goal.returns
returns c = ap (λ p. get_or ARITHMETIC (p / 2) Mul) c.from.ensures ∙ arithmetic-at c.args.code c.requires.low c.requires.high

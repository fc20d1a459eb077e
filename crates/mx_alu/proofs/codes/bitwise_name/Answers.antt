use Rattle.std.proofs.Common.{◌/◌, get_or, ◌∙◌, ap}
use Rattle.mx_alu.proofs.Words.{BITWISE, Or}
use Rattle.mx_alu.proofs.Named.{bitwise-at}
use Rattle.mx_alu.proofs.codes.bitwise_name.Goals as goal

pub returns : goal.returns
returns c = ap (λ p. get_or BITWISE (p / 2) Or) c.from.ensures ∙ bitwise-at c.args.code c.requires.low c.requires.high

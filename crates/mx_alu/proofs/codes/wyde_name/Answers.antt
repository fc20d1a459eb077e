use Rattle.std.proofs.Common.{◌-◌, ◌*◌, ◌/◌, get_or, ◌∙◌, ap}
use Rattle.mx_alu.proofs.Words.{WYDES, Set}
use Rattle.mx_alu.proofs.Named.{wyde-at}
use Rattle.mx_alu.proofs.codes.wyde_name.Goals as goal

pub returns-clause-name : goal.returns-clause-name
returns-clause-name c =
    ap (λ p. (get_or WYDES (p / 4) Set, 48 - 16 * c.from-2.result)) c.from.ensures
    ∙ ap (λ p. (get_or WYDES ((c.args.code - 0xe0) / 4) Set, 48 - 16 * p)) c.from-2.ensures
    ∙ wyde-at c.args.code c.requires.low c.requires.high

use Rattle.std.proofs.Common.{sym, ◌∙◌}
use Rattle.mx_stab.proofs.Fewest.{few-stay}
use Rattle.mx_stab.proofs.numbers.fewest_digits.Goals as goal

pub returns-clause-value : goal.returns-clause-value
returns-clause-value c = sym (few-stay c.loop-rest.rest.now c.in_default.len_below) ∙ c.loop-rest.invariant.same

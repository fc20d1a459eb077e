use Rattle.std.proofs.Common.{ap, ◌∙◌}
use Rattle.mx_count.specs.Runs.{text_if}
use Rattle.mx_count.proofs.count.text_of.Goals as goal

pub returns-in-Ok-clause-none : goal.returns-in-Ok-clause-none
returns-in-Ok-clause-none c = λ given e. c.in-Ok.ensures ∙ ap text_if (given e)

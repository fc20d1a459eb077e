use Rattle.mx_trap.proofs.TextEnds.{text-only, text-large}
use Rattle.mx_trap.proofs.laws.texts_end_at_the_first_zero.Goals as goal

pub returns-clause-only : goal.returns-clause-only
returns-clause-only c = text-only

pub returns-clause-large : goal.returns-clause-large
returns-clause-large c = text-large

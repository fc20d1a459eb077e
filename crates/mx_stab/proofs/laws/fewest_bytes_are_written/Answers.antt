use Rattle.mx_stab.proofs.FewestLaw.{serials-fewest, values-fewest}
use Rattle.mx_stab.proofs.laws.fewest_bytes_are_written.Goals as goal

pub returns-clause-values : goal.returns-clause-values
returns-clause-values c = values-fewest

pub returns-clause-serials : goal.returns-clause-serials
returns-clause-serials c = serials-fewest

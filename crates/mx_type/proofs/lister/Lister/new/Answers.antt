use Rattle.mx_type.proofs.Listed.{none-listed}
use Rattle.mx_type.proofs.lister.Lister.new.Goals as goal

pub returns-clause-none : goal.returns-clause-none
returns-clause-none c = none-listed

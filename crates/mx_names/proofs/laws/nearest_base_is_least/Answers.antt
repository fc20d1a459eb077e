use Rattle.mx_names.proofs.Nearest.{nearest-is, nearest-is-none, nearest-none-is}
use Rattle.mx_names.proofs.laws.nearest_base_is_least.Goals as goal

pub returns-clause-base : goal.returns-clause-base
returns-clause-base c = nearest-is

pub returns-clause-none : goal.returns-clause-none
returns-clause-none c = λ gregs address bound. (nearest-none-is gregs address, nearest-is-none gregs address bound)

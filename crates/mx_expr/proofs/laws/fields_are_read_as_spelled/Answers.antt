use Rattle.mx_expr.proofs.Exact.{list-read, fault-read}
use Rattle.mx_expr.proofs.laws.fields_are_read_as_spelled.Goals as goal

pub returns-clause-list : goal.returns-clause-list
returns-clause-list c = list-read

pub returns-clause-fault : goal.returns-clause-fault
returns-clause-fault c = fault-read

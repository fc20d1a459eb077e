use Rattle.mx_expr.proofs.Exact.{one-fault}
use Rattle.mx_expr.proofs.laws.one_fault.Goals as goal

pub returns : goal.returns
returns c = one-fault

use Rattle.mx_expr.proofs.Fields.{one-list}
use Rattle.mx_expr.proofs.laws.one_list.Goals as goal

pub returns : goal.returns
returns c = one-list

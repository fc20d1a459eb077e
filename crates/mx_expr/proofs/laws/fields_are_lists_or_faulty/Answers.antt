use Rattle.mx_expr.proofs.Exact.{list-or-fault, not-both}
use Rattle.mx_expr.proofs.laws.fields_are_lists_or_faulty.Goals as goal

pub returns-clause-either : goal.returns-clause-either
returns-clause-either c = list-or-fault

pub returns-clause-one : goal.returns-clause-one
returns-clause-one c = not-both

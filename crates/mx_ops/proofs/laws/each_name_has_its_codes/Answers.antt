use Rattle.mx_ops.proofs.Rows.{each-code}
use Rattle.mx_ops.proofs.Operations.{rows}
use Rattle.mx_ops.proofs.laws.each_name_has_its_codes.Goals as goal

pub returns-clause-follow : goal.returns-clause-follow
returns-clause-follow c = rows

pub returns-clause-codes : goal.returns-clause-codes
returns-clause-codes c = each-code

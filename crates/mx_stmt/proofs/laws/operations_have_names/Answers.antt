use Rattle.mx_stmt.proofs.FieldsRead.{read-named}
use Rattle.mx_stmt.proofs.laws.operations_have_names.Goals as goal

pub returns : goal.returns
returns c = read-named

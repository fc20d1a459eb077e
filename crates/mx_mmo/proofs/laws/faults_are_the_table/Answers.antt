use Rattle.mx_mmo.proofs.Table.{table-found, table-only}
use Rattle.mx_mmo.proofs.laws.faults_are_the_table.Goals as goal

pub returns-clause-found : goal.returns-clause-found
returns-clause-found c = table-found

pub returns-clause-only : goal.returns-clause-only
returns-clause-only c = table-only

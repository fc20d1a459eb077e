use Rattle.mx_files.proofs.Serving.{start-slots}
use Rattle.mx_files.proofs.laws.files_are_served.Goals as goal

pub returns-clause-start : goal.returns-clause-start
returns-clause-start c = start-slots

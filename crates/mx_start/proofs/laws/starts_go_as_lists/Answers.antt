use Rattle.mx_start.proofs.ListedStarts.{start-listed}
use Rattle.mx_start.proofs.laws.starts_go_as_lists.Goals as goal

pub returns : goal.returns
returns c = start-listed

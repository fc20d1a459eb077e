use Rattle.mx_stmt.proofs.AwaitedNames.{encoding-awaits}
use Rattle.mx_stmt.proofs.laws.awaited_names_are_unknown.Goals as goal

pub returns : goal.returns
returns c = encoding-awaits

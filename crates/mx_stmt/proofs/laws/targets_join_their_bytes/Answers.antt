use Rattle.mx_stmt.proofs.JoinedStatements.{encoding-joined}
use Rattle.mx_stmt.proofs.laws.targets_join_their_bytes.Goals as goal

pub returns : goal.returns
returns c = encoding-joined

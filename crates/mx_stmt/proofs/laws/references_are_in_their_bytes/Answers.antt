use Rattle.mx_stmt.proofs.LaidBytes.{encoding-laid}
use Rattle.mx_stmt.proofs.laws.references_are_in_their_bytes.Goals as goal

pub returns : goal.returns
returns c = encoding-laid

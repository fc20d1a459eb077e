use Rattle.mx_watch.proofs.Remembered.{nothing_remembered}
use Rattle.mx_watch.proofs.cover.nothing_remembered.Goals as goal

pub returns : goal.returns
returns c = nothing_remembered 1024

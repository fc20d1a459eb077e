use Rattle.mx_mmo.proofs.Written.{written-read}
use Rattle.mx_mmo.proofs.laws.written_is_read.Goals as goal

pub returns : goal.returns
returns c = written-read

use Rattle.mx_mem.proofs.Removals.{absent-octa}
use Rattle.mx_mem.proofs.dropping.absent_pages_hold_zeros.Goals as goal

pub returns : goal.returns
returns c = absent-octa

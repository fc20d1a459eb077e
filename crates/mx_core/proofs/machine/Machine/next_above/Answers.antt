use Rattle.mx_core.specs.Way.Parts.{kept}
use Rattle.mx_core.proofs.Spaces.Searches.{above-is}
use Rattle.mx_core.proofs.machine.Machine.next_above.Goals as goal

pub returns : goal.returns
returns c = rw (← c.self.view_is) (above-is (kept c.self.inside) c.args.from c.max.result c.next_nonzero.result c.max.ensures c.next_nonzero.ensures)

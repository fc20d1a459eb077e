use Rattle.std.proofs.Common.{◌^◌, arith}
use Rattle.mx_registers.proofs.Areas.{filled-below}
use Rattle.mx_registers.proofs.area.Area.know_octas.Goals as goal

pub returns : goal.returns
returns c = rw (← c.self.view_is) (filled-below (2 ^ 20) (2 ^ 64) c.self.inside.octas.items (omega arith) (rw c.as_slice.ensures.value at c.know_octas.ensures))

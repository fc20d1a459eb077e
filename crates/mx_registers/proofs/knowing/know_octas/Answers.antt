use Rattle.std.proofs.Common.{arith}
use Rattle.mx_registers.proofs.knowing.know_octas.Goals as goal

pub returns : goal.returns
returns c = λ i. omega (arith, c.type_inv.octas i)

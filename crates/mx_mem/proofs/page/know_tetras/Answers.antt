use Rattle.std.proofs.Common.{arith}
use Rattle.mx_mem.proofs.page.know_tetras.Goals as goal

pub returns : goal.returns
returns c = λ i. omega (arith, c.type_inv.tetras i)

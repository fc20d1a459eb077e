use Rattle.mx_alu.proofs.Places.{matrix-or-next}
use Rattle.mx_alu.proofs.bitwise.matrix_or.Goals as goal

pub loop-k-preserved : goal.loop-k-preserved
loop-k-preserved c = rw (c.loop-k.invariant, c.select_bytes-x.ensures) (matrix-or-next c.args.y c.args.z c.loop-k.k)

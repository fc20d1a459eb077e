use Rattle.mx_alu.proofs.Places.{matrix-xor-next}
use Rattle.mx_alu.proofs.bitwise.matrix_xor.Goals as goal

pub loop-k-preserved : goal.loop-k-preserved
loop-k-preserved c = rw (c.loop-k.invariant, c.select_bytes-x.ensures) (matrix-xor-next c.args.y c.args.z c.loop-k.k)

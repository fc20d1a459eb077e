use Rattle.std.proofs.Common.{arith}
use Rattle.mx_files.proofs.ReadPieces.{left-all, left-next, left-short, left-ends, left-none}
use Rattle.mx_files.proofs.source.pieces.Goals as goal

pub loop-turn-init : goal.loop-turn-init
loop-turn-init g c = rw c.new-got.ensures (left-all _ _ _ _)

pub returns-in-Ok-false : goal.returns-in-Ok-false
returns-in-Ok-false g c = left-short _ _ _ _ _ _ _ _ _ _ _ c.loop-turn-test.true c.loop-turn.invariant (rw c.in-Ok-false.field-0-test at c.in-Ok-false.ensures)

pub returns-in-Err : goal.returns-in-Err
returns-in-Err g c = left-ends _ _ _ _ _ _ _ _ _ _ _ c.loop-turn-test.true c.loop-turn.invariant c.in-Err.ensures

pub loop-turn-preserved : goal.loop-turn-preserved
loop-turn-preserved g c = left-next _ _ _ _ _ _ _ _ _ _ _ c.loop-turn-test.true c.loop-turn.invariant (rw c.in-Ok-true.field-0-test at c.in-Ok-true.ensures)

pub returns : goal.returns
returns g c = left-none _ _ _ _ _ _ _ _ (omega (arith, c.loop-turn-test.false)) c.loop-turn.invariant

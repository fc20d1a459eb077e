use Rattle.mx_con.proofs.ListedLines.{octas-begin, octas-more, octas-ended, octas-done}
use Rattle.mx_con.proofs.listings.write_octas.Goals as goal

pub loop-turn-init : goal.loop-turn-init
loop-turn-init g c = octas-begin _ _ _ _ _ _ _

pub loop-turn-preserved : goal.loop-turn-preserved
loop-turn-preserved g c = octas-more _ _ _ _ _ _ _ _ _ _ _ c.loop-turn-test.true c.loop-turn.invariant c.in-Ok.ensures

pub returns-in-Err : goal.returns-in-Err
returns-in-Err g c = octas-ended _ _ _ _ _ _ _ _ _ _ _ _ c.loop-turn-test.true c.loop-turn.invariant c.in-Err.ensures

pub returns : goal.returns
returns g c = octas-done _ _ _ _ _ _ _ _ _ _ c.loop-turn-test.false c.loop-turn.invariant

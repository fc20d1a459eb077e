use Rattle.mx_con.proofs.LineReads.{line-more}
use Rattle.mx_con.proofs.host_lines.read_line.Goals as goal

pub loop-left-preserved : goal.loop-left-preserved
loop-left-preserved g c =
    line-more _ _ _ _ _ _ _ _ _ _ c.loop-left-test.true c.loop-left.invariant (rw c.in-Ok-true.field-0-test at c.in-Ok-true.ensures.part)
    (c.in-Ok-true.ensures.fewer (let more = c.in-Ok-true.field-0-test in cc))

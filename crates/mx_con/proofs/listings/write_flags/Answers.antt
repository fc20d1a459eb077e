use Rattle.mx_plan.specs.Calls.{host}
use Rattle.mx_con.proofs.ListedLines.{flags-more, flags-ended, flags-none, flags-done}
use Rattle.mx_con.proofs.Parts.{left-all}
use Rattle.mx_con.proofs.listings.write_flags.Goals as goal

pub loop-tetra-init : goal.loop-tetra-init
loop-tetra-init g c = left-all host _ _ _ _ _

pub loop-tetra-preserved : goal.loop-tetra-preserved
loop-tetra-preserved g c = flags-more _ _ _ _ _ _ _ _ _ _ c.in-Some.ensures c.write_flag.ensures.address c.loop-tetra.invariant c.in-Ok.ensures.part

pub returns-in-Err : goal.returns-in-Err
returns-in-Err g c = flags-ended _ _ _ _ _ _ _ _ _ _ _ c.in-Some.ensures c.write_flag.ensures.address c.loop-tetra.invariant c.in-Err.ensures.part

pub returns-in_default : goal.returns-in_default
returns-in_default g c = flags-none _ _ _ _ _ _ _ _ (rw c.in_default.is at c.next_flagged.ensures) c.loop-tetra.invariant

pub returns : goal.returns
returns g c = flags-done _ _ _ _ _ _ _ c.loop-tetra-test.false c.loop-tetra.invariant

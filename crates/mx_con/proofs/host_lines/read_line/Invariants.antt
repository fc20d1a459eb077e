use Rattle.std.proofs.Common.{[]}
use Rattle.mx_host.specs.HostModel.{contents}
use Rattle.mx_plan.specs.Calls.{host}
use Rattle.mx_con.specs.LinePlans.{reading_plan}
use Rattle.mx_con.proofs.Parts.{Leaves}
use Rattle.mx_con.proofs.host_lines.read_line.Given as goal

-- what is left of the line is left to read
abbrev pub invariant-loop-left : goal.invariant-loop-left
invariant-loop-left g l =
    Leaves host g.H.Host.told g.H.Host.faults l.fn.host l.host (contents (g.H.Host.told l.fn.host)) (contents (g.H.Host.told l.host))
    (reading_plan l.left l.line) (reading_plan l.fn.left [])

abbrev pub decreases-loop-left : goal.decreases-loop-left
decreases-loop-left g l = l.left

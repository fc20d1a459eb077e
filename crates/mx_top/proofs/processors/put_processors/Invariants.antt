use Rattle.std.proofs.Common.{Ok}
use Rattle.mx_multi.specs.Joint.{joint_of}
use Rattle.mx_top.specs.Processors.{processor_line}
use Rattle.mx_files.proofs.WrittenLines.{Writes, lines-below}
use Rattle.mx_top.proofs.processors.put_processors.Given as goal

-- the lines so far were written
abbrev pub invariant-loop-who : goal.invariant-loop-who
invariant-loop-who g l =
    Writes (g.H.Host.told l.fn.host) (g.H.Host.told l.host) (g.H.Host.faults l.fn.host) (g.H.Host.faults l.host) (Ok tt)
    (lines-below (processor_line l.end (joint_of l.multi)) l.count l.who)

use Rattle.std.proofs.Common.{Ok}
use Rattle.mx_core.specs.Kept.{state_of}
use Rattle.mx_dump.specs.Dump.{register_line}
use Rattle.mx_files.proofs.WrittenLines.{Writes, lines-below}
use Rattle.mx_dump.proofs.lines.put_registers.Given as goal

-- the lines so far were written
abbrev pub invariant-loop-k : goal.invariant-loop-k
invariant-loop-k g l =
    Writes (g.H.Host.told l.fn.host) (g.H.Host.told l.host) (g.H.Host.faults l.fn.host) (g.H.Host.faults l.host) (Ok tt)
    (lines-below (register_line (state_of l.machine)) 256 l.k)

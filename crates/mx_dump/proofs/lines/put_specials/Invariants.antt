use Rattle.std.proofs.Common.{Ok}
use Rattle.mx_core.specs.Kept.{state_of}
use Rattle.mx_dump.specs.Dump.{special_line}
use Rattle.mx_files.proofs.WrittenLines.{Writes, lines-below}
use Rattle.mx_dump.proofs.lines.put_specials.Given as goal

-- the lines so far were written
abbrev pub invariant-loop-code : goal.invariant-loop-code
invariant-loop-code g l =
    Writes (g.H.Host.told l.fn.host) (g.H.Host.told l.host) (g.H.Host.faults l.fn.host) (g.H.Host.faults l.host) (Ok tt)
    (lines-below (special_line (state_of l.machine)) 32 l.code)

use Rattle.std.proofs.Common.{◌≡◌, ◌≤◌, ◌-◌, ◌/◌, ◌%◌, ◌^◌, Ok}
use Rattle.mx_core.specs.Kept.{state_of}
use Rattle.mx_dump.specs.Dump.{octa_lines}
use Rattle.mx_files.proofs.WrittenLines.{Writes}
use Rattle.mx_dump.proofs.lines.put_octas.Given as goal

-- the lines of the octas so far were written
abbrev pub invariant-loop-a : goal.invariant-loop-a
invariant-loop-a g l = record {
  most : l.from ≤ 2 ^ 63;
  octas : l.from % 8 ≡ 0;
  written : Writes (g.H.Host.told l.fn.host) (g.H.Host.told l.host) (g.H.Host.faults l.fn.host) (g.H.Host.faults l.host) (Ok tt)
      (octa_lines (state_of l.machine) (l.from / 8));
}

abbrev pub decreases-loop-a : goal.decreases-loop-a
decreases-loop-a g l = 2 ^ 63 - l.from

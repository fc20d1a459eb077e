use Rattle.std.proofs.Common.{◌≤◌, ◌-◌, ◌*◌, ◌^◌}
use Rattle.mx_mem.proofs.Searches.{ZeroUpTo}
use Rattle.mx_mem.proofs.memory.Memory.next_nonzero.Given as goal

-- what was passed over is 0
abbrev pub invariant-loop-number : goal.invariant-loop-number
invariant-loop-number l = record {
  reached : l.from ≤ 8 * l.at;
  below : l.at ≤ 2 ^ 60;
  zeros : ZeroUpTo l.self l.from l.at;
}

abbrev pub decreases-loop-number : goal.decreases-loop-number
decreases-loop-number l = 2 ^ 60 - l.at

use Rattle.std.proofs.Common.{◌≡◌, ◌≤◌, ◌^◌, length}
use Rattle.mx_stab.proofs.Words.{serial_after, serial_cap}
use Rattle.mx_stab.proofs.values.split_serial.Given as goal

abbrev pub invariant-loop-rest : goal.invariant-loop-rest
invariant-loop-rest l = record {
  same : serial_cap (serial_after l.x l.rest) ≡ serial_cap (serial_after 0 l.bytes);
  fewer : length l.rest ≤ length l.bytes;
  most : l.x ≤ 2 ^ 32;
}

abbrev pub decreases-loop-rest : goal.decreases-loop-rest
decreases-loop-rest l = length l.rest

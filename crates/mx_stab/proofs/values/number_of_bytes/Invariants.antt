use Rattle.std.proofs.Common.{◌≡◌, ◌≤◌, ◌<◌, ◌-◌, ◌^◌, length}
use Rattle.mx_stab.specs.Grammar.{number_after, number}
use Rattle.mx_stab.proofs.values.number_of_bytes.Given as goal

abbrev pub invariant-loop-rest : goal.invariant-loop-rest
invariant-loop-rest l = record {
  same : number_after 256 l.x l.rest ≡ number 256 l.bytes;
  fewer : length l.rest ≤ length l.bytes;
  most : l.x < 256 ^ (length l.bytes - length l.rest);
}

abbrev pub decreases-loop-rest : goal.decreases-loop-rest
decreases-loop-rest l = length l.rest

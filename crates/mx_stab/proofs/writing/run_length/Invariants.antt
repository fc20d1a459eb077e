use Rattle.std.proofs.Common.{◌≡◌, ◌+◌, length}
use Rattle.mx_stab.specs.Writing.{run_length}
use Rattle.mx_stab.proofs.writing.run_length.Given as goal

abbrev pub invariant-loop-rest : goal.invariant-loop-rest
invariant-loop-rest l = record {
  same : l.count + run_length l.at l.byte l.rest ≡ run_length l.at l.byte l.symbols;
  within : l.count + length l.rest ≡ length l.symbols;
}

abbrev pub decreases-loop-rest : goal.decreases-loop-rest
decreases-loop-rest l = length l.rest

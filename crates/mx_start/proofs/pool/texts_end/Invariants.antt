use Rattle.std.proofs.Common.{◌≡◌, ◌<◌, ◌^◌, length}
use Rattle.mx_start.specs.Start as spec
use Rattle.mx_start.proofs.pool.texts_end.Given as goal

-- the texts that are left end where all texts do
abbrev pub invariant-loop-rest : goal.invariant-loop-rest
invariant-loop-rest l = record {
  same_end : spec.texts_end l.end l.rest ≡ spec.texts_end l.at l.texts;
  octa : l.end < 2 ^ 64;
}

abbrev pub decreases-loop-rest : goal.decreases-loop-rest
decreases-loop-rest l = length l.rest

use Rattle.std.proofs.Common.{◌≡◌, false, replicate}
use Rattle.mx_multi.proofs.multi.none_halted.Given as goal

abbrev pub invariant-loop-at : goal.invariant-loop-at
invariant-loop-at l = l.halted.items ≡ replicate l._at false

use Rattle.std.proofs.Common.{◌≡◌, true, drop}
use Rattle.mx_count.specs.Counting.{kept_tally}
use Rattle.mx_count.specs.InTurn.{summed}
use Rattle.mx_count.proofs.sums.total.Given as goal

abbrev pub invariant-loop-entry : goal.invariant-loop-entry
invariant-loop-entry l = kept_tally (λ a. true) l.entries ≡ summed l.sum (drop l.entry-index l.entries)

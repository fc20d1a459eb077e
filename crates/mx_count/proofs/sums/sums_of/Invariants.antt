use Rattle.std.proofs.Common.{◌≡◌, drop}
use Rattle.mx_count.specs.InTurn.{no_sums, sum_at, with_entries}
use Rattle.mx_count.proofs.sums.sums_of.Given as goal

abbrev pub invariant-loop-entry : goal.invariant-loop-entry
invariant-loop-entry l = with_entries no_sums l.entries ≡ with_entries (sum_at l.sums) (drop l.entry-index l.entries)

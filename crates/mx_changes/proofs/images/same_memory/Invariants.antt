use Rattle.std.proofs.Common.{◌≡◌, ◌<◌, ◌%◌, ◌^◌, ◌-◌, ℕ}
use Rattle.mx_mem.specs.Memory.{octa_at}
use Rattle.mx_changes.proofs.images.same_memory.Given as goal

abbrev pub invariant-loop-from : goal.invariant-loop-from
invariant-loop-from l = (q : ℕ) → q < l.from → q % 8 ≡ 0 → octa_at l.one q ≡ octa_at l.other q

abbrev pub decreases-loop-from : goal.decreases-loop-from
decreases-loop-from l = 2 ^ 63 - l.from

use Rattle.std.proofs.Common.{◌≡◌, ◌≤◌, ◌<◌, ℕ}
use Rattle.mx_ring.specs.Stack.{windowed, stack_octa}
use Rattle.mx_core.proofs.search.next_index.Given as goal

-- all are 0 so far
abbrev pub invariant-loop-i : goal.invariant-loop-i
invariant-loop-i l = (k : ℕ) → l.from ≤ k → k < l.i → stack_octa (windowed l.ring) k ≡ 0

use Rattle.std.proofs.Common.{◌≡◌, ◌<◌, ℕ, false, get_or, true}
use Rattle.mx_multi.proofs.queue.has_any_halted.Given as goal

abbrev pub invariant-loop-flag : goal.invariant-loop-flag
invariant-loop-flag l = (i : ℕ) → i < l.flag-index → get_or l.halted i true ≡ false

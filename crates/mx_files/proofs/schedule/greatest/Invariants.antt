use Rattle.std.proofs.Common.{◌≤◌, ◌<◌, ℕ, get_or}
use Rattle.mx_files.proofs.schedule.greatest.Given as goal

abbrev pub invariant-loop-b : goal.invariant-loop-b
invariant-loop-b l = (place : ℕ) → place < l.b-index → get_or l.bytes place 0 ≤ l.most

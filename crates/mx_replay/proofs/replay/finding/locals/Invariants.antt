use Rattle.std.proofs.Common.{◌≡◌, ◌<◌, ℕ, length}
use Rattle.std.specs.Prelude.{slice_index}
use Rattle.mx_core.specs.Kept.{state_of}
use Rattle.mx_ring.specs.Stack.{register}
use Rattle.mx_replay.proofs.replay.finding.locals.Given as goal

abbrev pub invariant-loop-k : goal.invariant-loop-k
invariant-loop-k l = (length l.locals ≡ l.k) × ((i : ℕ) → i < length l.locals → slice_index l.locals i ≡ register (state_of l.machine).stack i)

use Rattle.std.proofs.Common.{◌≡◌, ◌<◌, ℕ}
use Rattle.mx_load.specs.Kept.{image_of}
use Rattle.mx_changes.proofs.images.same_globals.Given as goal

abbrev pub invariant-loop-k : goal.invariant-loop-k
invariant-loop-k l = (k : ℕ) → k < l.k → (image_of l.one).global k ≡ (image_of l.other).global k

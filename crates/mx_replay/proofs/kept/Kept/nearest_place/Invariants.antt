use Rattle.std.proofs.Common.{IfSome}
use Rattle.mx_replay.specs.Keeping.{IsPlaceBefore}
use Rattle.mx_replay.proofs.kept.Kept.nearest_place.Given as goal

abbrev pub invariant-loop-place : goal.invariant-loop-place
invariant-loop-place l = IfSome l.best (IsPlaceBefore l.self l.k)

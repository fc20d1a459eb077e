use Rattle.std.proofs.Common.{◌≡◌, ◌+◌, drop}
use Rattle.mx_names.specs.Gregs.{nearest_from}
use Rattle.mx_names.proofs.gregs.nearest_from.Given as goal

abbrev pub invariant-loop-place : goal.invariant-loop-place
invariant-loop-place l = l.nearest ≡ nearest_from l.address (l.first + l.place) (drop l.place l.values)

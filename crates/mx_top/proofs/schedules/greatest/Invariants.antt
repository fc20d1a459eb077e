use Rattle.std.proofs.Common.{◌≡◌, ◌+◌, take}
use Rattle.mx_top.specs.Processors.{counted_from}
use Rattle.mx_top.proofs.schedules.greatest.Given as goal

abbrev pub invariant-loop-who : goal.invariant-loop-who
invariant-loop-who l = counted_from 1 (take l.who-index l.schedule) ≡ l.most + 1

use Rattle.std.proofs.Common.{◌≡◌, ◌++◌, ◌-◌, drop}
use Rattle.std.specs.List.{range_with_len}
use Rattle.mx_watch.specs.Reporting.{in_places}
use Rattle.mx_watch.proofs.reporting.join.Given as goal

abbrev pub invariant-loop-place : goal.invariant-loop-place
invariant-loop-place l =
    l.texts ++ in_places (range_with_len l.place (l.count - l.place)) l.kept (drop l.next l.left) ≡ in_places (range_with_len 0 l.count) l.kept l.left

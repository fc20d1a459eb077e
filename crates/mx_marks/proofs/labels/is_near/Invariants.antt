use Rattle.std.proofs.Common.{◌≡◌, length}
use Rattle.mx_marks.specs.Labels.{is_near}
use Rattle.mx_marks.proofs.labels.is_near.Given as goal

abbrev pub invariant-loop-left : goal.invariant-loop-left
invariant-loop-left l = is_near l.is_long l.a l.b ≡ is_near l.is_long l.left l.right

abbrev pub decreases-loop-left : goal.decreases-loop-left
decreases-loop-left l = length l.left

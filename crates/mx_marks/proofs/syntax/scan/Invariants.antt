use Rattle.std.proofs.Common.{◌≡◌}
use Rattle.mx_marks.specs.Syntax.{scan, scan_from}
use Rattle.mx_marks.proofs.syntax.scan.Given as goal

abbrev pub invariant-loop-left : goal.invariant-loop-left
invariant-loop-left l = scan l.text ≡ scan_from l.left l.wants l.rest

abbrev pub decreases-loop-left : goal.decreases-loop-left
decreases-loop-left l = l.left

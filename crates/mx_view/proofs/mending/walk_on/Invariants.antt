use Rattle.std.proofs.Common.{◌≡◌, ◌≤◌, length}
use Rattle.mx_line.specs.Lines.{lines_of}
use Rattle.mx_walk.specs.Walks.{IsAt}
use Rattle.mx_view.specs.Mending.{to_come}
use Rattle.mx_view.proofs.mending.walk_on.Given as goal

abbrev pub invariant-loop-rest : goal.invariant-loop-rest
invariant-loop-rest l =
    IsAt l.s.walk × (l.s.left ≤ l.fn.s.left) × (to_come l.fn.s (lines_of l.source) ≡ to_come l.s (lines_of l.rest))

abbrev pub decreases-loop-rest : goal.decreases-loop-rest
decreases-loop-rest l = length l.rest

use Rattle.std.proofs.Common.{◌≤◌, ◌-◌}
use Rattle.mx_replay.specs.Marks.{mark_of}
use Rattle.mx_replay.specs.Visits.{IsStep}
use Rattle.mx_replay.specs.declared.program.Program.{Program}
use Rattle.mx_replay.proofs.Found.{LastSoFar}
use Rattle.mx_replay.proofs.searches.find_last.Given as goal

abbrev pub invariant-loop-alloc : goal.invariant-loop-alloc
invariant-loop-alloc l = (p : Program) → IsStep p l.fn.visit → l.fn.visit.at ≤ l.until → LastSoFar p (mark_of l.sought) l.fn.visit.at l.until l.visit l.last

abbrev pub decreases-loop-alloc : goal.decreases-loop-alloc
decreases-loop-alloc l = l.until - l.visit.at

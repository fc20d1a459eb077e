use Rattle.std.proofs.Common.{◌-◌}
use Rattle.mx_replay.specs.Keeping.{AreSteps}
use Rattle.mx_replay.specs.Marks.{mark_of}
use Rattle.mx_replay.specs.Visits.{IsStep}
use Rattle.mx_replay.specs.declared.program.Program.{Program}
use Rattle.mx_replay.proofs.Found.{NextSoFar}
use Rattle.mx_replay.proofs.searches.find_next.Given as goal

abbrev pub invariant-loop-alloc : goal.invariant-loop-alloc
invariant-loop-alloc l = ((p : Program) → IsStep p l.fn.visit → NextSoFar p (mark_of l.sought) l.until l.fn.visit l.visit)
    × ((p : Program) → IsStep p l.fn.visit → AreSteps p l.fn.kept → AreSteps p l.kept)

abbrev pub decreases-loop-alloc : goal.decreases-loop-alloc
decreases-loop-alloc l = l.until - l.visit.at

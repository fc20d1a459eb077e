use Rattle.std.proofs.Common.{◌≤◌}
use Rattle.mx_replay.specs.Keeping.{AreSteps}
use Rattle.mx_replay.specs.Visits.{IsStep}
use Rattle.mx_replay.specs.declared.program.Program.{Program}
use Rattle.mx_replay.proofs.Keeping.{left_of}
use Rattle.mx_replay.proofs.kept.go_keeping.Given as goal

abbrev pub invariant-loop-alloc : goal.invariant-loop-alloc
invariant-loop-alloc l = (l.visit.at ≤ l.k) × ((p : Program) → IsStep p l.fn.visit → IsStep p l.visit)
    × ((p : Program) → IsStep p l.fn.visit → AreSteps p l.fn.kept → AreSteps p l.kept)

abbrev pub decreases-loop-alloc : goal.decreases-loop-alloc
decreases-loop-alloc l = left_of l.visit l.k

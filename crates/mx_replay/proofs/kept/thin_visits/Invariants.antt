use Rattle.mx_replay.specs.Keeping.{AreSteps}
use Rattle.mx_replay.specs.declared.program.Program.{Program}
use Rattle.mx_replay.proofs.kept.thin_visits.Given as goal

abbrev pub invariant-loop-visit : goal.invariant-loop-visit
invariant-loop-visit l = (p : Program) → AreSteps p l.fn.visits → AreSteps p l.rest.items × AreSteps p l.left

abbrev pub decreases-loop-visit : goal.decreases-loop-visit
decreases-loop-visit l = goal.left-loop-visit l

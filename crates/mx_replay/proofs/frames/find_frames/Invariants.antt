use Rattle.std.proofs.Common.{◌-◌}
use Rattle.mx_replay.specs.Visits.{IsStart}
use Rattle.mx_replay.specs.declared.program.Program.{Program}
use Rattle.mx_replay.proofs.Framed.{FramedSoFar}
use Rattle.mx_replay.proofs.frames.find_frames.Given as goal

abbrev pub invariant-loop-alloc : goal.invariant-loop-alloc
invariant-loop-alloc l = (p : Program) → IsStart p l.fn.visit → FramedSoFar p l.until l.visit l.frames.items

abbrev pub decreases-loop-alloc : goal.decreases-loop-alloc
decreases-loop-alloc l = l.until - l.visit.at

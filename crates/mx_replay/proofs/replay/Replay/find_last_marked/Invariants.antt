use Rattle.std.proofs.Common.{◌≡◌}
use Rattle.mx_replay.specs.Marks.{mark_of}
use Rattle.mx_replay.proofs.Found.{NoneLater}
use Rattle.mx_replay.proofs.replay.Replay.find_last_marked.Given as goal

abbrev pub invariant-loop-end : goal.invariant-loop-end
invariant-loop-end l = (l.self ≡ l.fn.self) × NoneLater l.fn.self.program (mark_of l.sought) l.until l.end

abbrev pub decreases-loop-end : goal.decreases-loop-end
decreases-loop-end l = l.end

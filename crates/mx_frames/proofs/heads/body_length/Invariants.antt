use Rattle.std.proofs.Common.{◌≡◌}
use Rattle.mx_frames.specs.Heads.{body_length, length_in}
use Rattle.mx_frames.proofs.heads.body_length.Given as goal

abbrev pub invariant-loop-left : goal.invariant-loop-left
invariant-loop-left l = body_length l.head ≡ length_in l.left l.rest

abbrev pub decreases-loop-left : goal.decreases-loop-left
decreases-loop-left l = l.left

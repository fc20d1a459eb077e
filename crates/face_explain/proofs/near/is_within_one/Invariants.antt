use Rattle.std.proofs.Common.{◌≡◌, length}
use Rattle.face_explain.specs.Near.{is_within_one}
use Rattle.face_explain.proofs.near.is_within_one.Given as goal

abbrev pub invariant-loop-left : goal.invariant-loop-left
invariant-loop-left l = is_within_one l.word l.name ≡ is_within_one l.left l.right

abbrev pub decreases-loop-left : goal.decreases-loop-left
decreases-loop-left l = length l.left

use Rattle.std.proofs.Common.{◌≡◌, ◌++◌, length}
use Rattle.face_count.specs.ObjectJson.{more_tetras}
use Rattle.face_count.proofs.object_json.add_more_tetras.Given as goal

abbrev pub invariant-loop-tetra : goal.invariant-loop-tetra
invariant-loop-tetra l = l.fn.text ++ more_tetras l.tetras l.counts ≡ l.text ++ more_tetras l.rest l.left

abbrev pub decreases-loop-tetra : goal.decreases-loop-tetra
decreases-loop-tetra l = length l.rest

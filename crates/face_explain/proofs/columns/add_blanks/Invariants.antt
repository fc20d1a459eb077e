use Rattle.std.proofs.Common.{◌≡◌, ◌++◌, replicate}
use Rattle.face_explain.proofs.columns.add_blanks.Given as goal

abbrev pub invariant-loop-at : goal.invariant-loop-at
invariant-loop-at l = l.text ≡ l.fn.text ++ replicate l._at 32

use Rattle.std.proofs.Common.{◌≡◌, length}
use Rattle.mx_marks.specs.Tokens.{from_part}
use Rattle.mx_marks.proofs.tokens.from_part.Given as goal

abbrev pub invariant-loop-left : goal.invariant-loop-left
invariant-loop-left l = from_part (length l.text) l.kind l.source l.most l.text ≡ from_part l.left l.kind l.source l.most l.rest

abbrev pub decreases-loop-left : goal.decreases-loop-left
decreases-loop-left l = l.left

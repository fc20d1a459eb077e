use Rattle.std.proofs.Common.{◌≡◌, ◌++◌, length}
use Rattle.mx_marks.specs.Under.{under_text}
use Rattle.mx_marks.proofs.under.add_under.Given as goal

abbrev pub invariant-loop-rest : goal.invariant-loop-rest
invariant-loop-rest l = l.fn.text ++ under_text l.front ≡ l.text ++ under_text l.rest

abbrev pub decreases-loop-rest : goal.decreases-loop-rest
decreases-loop-rest l = length l.rest

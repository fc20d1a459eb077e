use Rattle.std.proofs.Common.{◌≡◌, length}
use Rattle.mx_marks.specs.Labels.{first_word}
use Rattle.mx_marks.proofs.labels.first_word.Given as goal

abbrev pub invariant-loop-left : goal.invariant-loop-left
invariant-loop-left l = first_word (length l.text) l.name l.text ≡ first_word l.left l.name l.rest

abbrev pub decreases-loop-left : goal.decreases-loop-left
decreases-loop-left l = l.left

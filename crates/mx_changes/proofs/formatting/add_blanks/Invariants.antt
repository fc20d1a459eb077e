use Rattle.std.proofs.Common.{◌≡◌, ◌++◌, replicate}
use Rattle.mx_changes.proofs.formatting.add_blanks.Given as goal

abbrev pub invariant-loop-at : goal.invariant-loop-at
invariant-loop-at l = l.text ≡ l.fn.text ++ replicate l._at 32

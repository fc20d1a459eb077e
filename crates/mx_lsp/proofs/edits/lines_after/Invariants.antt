use Rattle.std.proofs.Common.{◌≡◌}
use Rattle.mx_lsp.specs.Edits.{lines_after}
use Rattle.mx_lsp.proofs.edits.lines_after.Given as goal

-- the lines that are left are left to pass
abbrev pub invariant-loop-left : goal.invariant-loop-left
invariant-loop-left l = lines_after l.count l.text ≡ lines_after l.left l.rest

abbrev pub decreases-loop-left : goal.decreases-loop-left
decreases-loop-left l = l.left

use Rattle.std.proofs.Common.{◌≡◌, length}
use Rattle.mx_slips.specs.Backslashes.{has_escape}
use Rattle.mx_slips.proofs.backslashes.has_escape.Given as goal

abbrev pub invariant-loop-rest : goal.invariant-loop-rest
invariant-loop-rest l = has_escape l.text ≡ has_escape l.rest

abbrev pub decreases-loop-rest : goal.decreases-loop-rest
decreases-loop-rest l = length l.rest

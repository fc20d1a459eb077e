use Rattle.std.proofs.Common.{◌≡◌, ◌++◌, length}
use Rattle.mx_slips.specs.Tokens.{tokens_of}
use Rattle.mx_slips.proofs.tokens.tokens_of.Given as goal

abbrev pub invariant-loop-rest : goal.invariant-loop-rest
invariant-loop-rest l = tokens_of l.end l.text ≡ l.tokens ++ tokens_of l.end l.rest

abbrev pub decreases-loop-rest : goal.decreases-loop-rest
decreases-loop-rest l = length l.rest

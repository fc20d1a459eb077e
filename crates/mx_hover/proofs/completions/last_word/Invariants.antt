use Rattle.std.proofs.Common.{◌≡◌, length}
use Rattle.mx_hover.specs.Completions.{word_from}
use Rattle.mx_hover.proofs.completions.last_word.Given as goal

-- the rest is left to read
abbrev pub invariant-loop-rest : goal.invariant-loop-rest
invariant-loop-rest l = word_from l.text l.text ≡ word_from l.word l.rest

abbrev pub decreases-loop-rest : goal.decreases-loop-rest
decreases-loop-rest l = length l.rest

use Rattle.mx_core.specs.Kept.{state_of}
use Rattle.mx_record.specs.Following.{Tells}
use Rattle.mx_record.specs.Pictures as spec
use Rattle.mx_record.proofs.start.special_values.Given as goal

abbrev pub invariant-loop-code : goal.invariant-loop-code
invariant-loop-code l = Tells l.changes (λ _. 0) (spec.special_shown (state_of l.machine)) 0 l.code

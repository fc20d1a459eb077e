use Rattle.mx_core.specs.Kept.{state_of}
use Rattle.mx_record.specs.Following.{Tells}
use Rattle.mx_record.specs.Pictures as spec
use Rattle.mx_record.proofs.start.global_values.Given as goal

abbrev pub invariant-loop-k : goal.invariant-loop-k
invariant-loop-k l = Tells l.changes (λ _. 0) (spec.global_shown (state_of l.machine)) 0 l.k

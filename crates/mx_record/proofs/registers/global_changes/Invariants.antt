use Rattle.mx_core.specs.Kept.{state_of}
use Rattle.mx_record.specs.Following.{Tells}
use Rattle.mx_record.specs.Pictures as spec
use Rattle.mx_record.proofs.registers.global_changes.Given as goal

abbrev pub invariant-loop-k : goal.invariant-loop-k
invariant-loop-k l = Tells l.changes (spec.global_shown (state_of l.old)) (spec.global_shown (state_of l.new)) l.first l.k

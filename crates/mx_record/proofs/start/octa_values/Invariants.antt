use Rattle.std.proofs.Common.{◌-◌}
use Rattle.mx_core.specs.Kept.{state_of}
use Rattle.mx_record.specs.Following.{TellsWithin}
use Rattle.mx_record.specs.Pictures as spec
use Rattle.mx_record.proofs.Telling.{old-or-below}
use Rattle.mx_record.proofs.start.octa_values.Given as goal

abbrev pub invariant-loop-n : goal.invariant-loop-n
invariant-loop-n l = TellsWithin l.changes (λ _. 0) (spec.octa_shown (state_of l.machine)) (old-or-below (λ _. 0) l.n)

abbrev pub decreases-loop-n : goal.decreases-loop-n
decreases-loop-n l = 1152921504606846976 - l.n

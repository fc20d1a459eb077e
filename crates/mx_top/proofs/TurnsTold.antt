-- Turns of several processors, and what follows them.
use Rattle.std.proofs.Common.{◌≡◌, ◌≢◌, ℕ, Bool, refl, ap}
use Rattle.mx_multi.specs.Joint.{Joint, as_list_joint}
use Rattle.mx_multi.specs.declared.end.MultiEnd.{MultiEnd}
use Rattle.mx_multi.specs.declared.end.MultiEnd.TheVariants as turning
use Rattle.mx_outcome.specs.declared.outcome.Outcome.{Outcome}
use Rattle.mx_outcome.specs.declared.outcome.Outcome.TheVariants.{OutOfMemory}
use Rattle.mx_top.specs.Processors.{multi_lines, multi_outcome}
use Rattle.mx_top.specs.Telling.{telling}
use Rattle.mx_top.proofs.SharedDumps.{same-lines}

-- an end where there was memory has an outcome
pub turned-well : (steps : ℕ) (end : MultiEnd) → end ≢ turning.OutOfMemory → multi_outcome steps end ≢ OutOfMemory
turned-well steps turning.AllHalted ne = λ e. absurd (cc)
turned-well steps (turning.Stopped who pc reason) ne = λ e. absurd (cc)
turned-well steps turning.Spent ne = λ e. absurd (cc)
turned-well steps turning.OutOfMemory ne = absurd (ne refl)

-- what follows those of lists is the same
pub same-told : (dump : Bool) (outcome : Outcome) (end : MultiEnd) (j : Joint) → telling outcome (multi_lines dump end (as_list_joint j)) ≡ telling outcome (multi_lines dump end j)
same-told dump outcome end j = ap (telling outcome) (same-lines dump end j)

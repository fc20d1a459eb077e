use Rattle.std.proofs.Common.{◌≡◌, length}
use Rattle.mx_core.specs.Kept.{state_of}
use Rattle.mx_start.specs.Start.{with_octas}
use Rattle.mx_start.proofs.starts.store_octas.Given as goal

-- what is left to store makes of the state so far what all octas make of it
abbrev pub invariant-loop-rest : goal.invariant-loop-rest
invariant-loop-rest l = with_octas (state_of l.fn.machine) l.a l.octas ≡ with_octas (state_of l.machine) l.at l.rest

abbrev pub decreases-loop-rest : goal.decreases-loop-rest
decreases-loop-rest l = length l.rest

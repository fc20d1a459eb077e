use Rattle.std.proofs.Common.{refl}
use Rattle.mx_core.proofs.Kept.Changed.{trapped-listed}
use Rattle.mx_core.proofs.laws.traps_go_as_lists.Goals as goal

pub returns : goal.returns
returns c = record { trapped = trapped-listed; halted = λ s. refl; touch = λ s. refl }

use Rattle.std.proofs.Common.{refl}
use Rattle.mx_core.proofs.Kept.Changed.{register-listed, special-listed, octa-changed-listed}
use Rattle.mx_core.proofs.laws.changes_go_as_lists.Goals as goal

pub returns : goal.returns
returns c = record {
  register = register-listed;
  special = special-listed;
  octa = octa-changed-listed;
  address = λ s a. refl;
}

use Rattle.mx_core.proofs.Kept.Applied.{hidden-listed}
use Rattle.mx_core.proofs.Same.Seen.{same-visible, same-register, same-special, same-octa}
use Rattle.mx_core.proofs.laws.lists_read_the_same.Goals as goal

pub returns : goal.returns
returns c = record {
  visible = λ s. same-visible s.stack;
  register = λ s k. same-register s.stack k;
  special = λ s code e. same-special s s.stack code e;
  octa = λ s a e. same-octa s s.stack a e;
  hidden = λ s. hidden-listed s.stack;
}

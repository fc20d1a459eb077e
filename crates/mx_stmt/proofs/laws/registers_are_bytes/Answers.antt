use Rattle.mx_stmt.proofs.SoundLabels.{encoding-fine}
use Rattle.mx_stmt.proofs.laws.registers_are_bytes.Goals as goal

pub returns-clause-label : goal.returns-clause-label
returns-clause-label c = λ t k s p sound is. (encoding-fine t k s p sound is).label

pub returns-clause-effect : goal.returns-clause-effect
returns-clause-effect c = λ t k s p sound is. (encoding-fine t k s p sound is).effect

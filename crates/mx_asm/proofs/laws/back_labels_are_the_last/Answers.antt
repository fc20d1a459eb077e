use Rattle.mx_asm.proofs.BackLabels.{back-last, back-none}
use Rattle.mx_asm.proofs.laws.back_labels_are_the_last.Goals as goal

pub returns-clause-last : goal.returns-clause-last
returns-clause-last c = back-last

pub returns-clause-none : goal.returns-clause-none
returns-clause-none c = back-none

use Rattle.mx_asm.proofs.InTurn.{none-taken, one-more-taken, one-more-grows, taken-ends, taken-grows}
use Rattle.mx_asm.proofs.laws.lines_are_taken_in_turn.Goals as goal

pub returns-clause-none : goal.returns-clause-none
returns-clause-none c = none-taken

pub returns-clause-line : goal.returns-clause-line
returns-clause-line c = one-more-taken

pub returns-clause-items : goal.returns-clause-items
returns-clause-items c = one-more-grows

pub returns-clause-end : goal.returns-clause-end
returns-clause-end c = taken-ends

pub returns-clause-whole : goal.returns-clause-whole
returns-clause-whole c = taken-grows

use Rattle.mx_asm.proofs.InTurn.{source-front, source-accepted}
use Rattle.mx_asm.proofs.laws.sources_are_emitted_or_refused.Goals as goal

pub returns-clause-emitted : goal.returns-clause-emitted
returns-clause-emitted c = source-accepted

pub returns-clause-refused : goal.returns-clause-refused
returns-clause-refused c = source-front

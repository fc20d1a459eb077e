use Rattle.mx_mmo.proofs.Complete.{object-only}
use Rattle.mx_mmo.proofs.Sound.{object-sound}
use Rattle.mx_mmo.proofs.laws.reading_is_the_grammar.Goals as goal

pub returns-clause-found : goal.returns-clause-found
returns-clause-found c = object-sound

pub returns-clause-only : goal.returns-clause-only
returns-clause-only c = object-only

use Rattle.mx_stmt.proofs.SoundKnowledge.{sound-start, sound-symbol, sound-local, sound-greg}
use Rattle.mx_stmt.proofs.laws.knowledge_stays_sound.Goals as goal

pub returns-clause-start : goal.returns-clause-start
returns-clause-start c = sound-start

pub returns-clause-symbol : goal.returns-clause-symbol
returns-clause-symbol c = sound-symbol

pub returns-clause-local : goal.returns-clause-local
returns-clause-local c = sound-local

pub returns-clause-register : goal.returns-clause-register
returns-clause-register c = sound-greg

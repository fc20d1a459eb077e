use Rattle.mx_mmo.proofs.Walks.{extends, items-step}
use Rattle.mx_mmo.proofs.laws.items_come_in_turn.Goals as goal

pub returns-clause-first : goal.returns-clause-first
returns-clause-first c = items-step

pub returns-clause-more : goal.returns-clause-more
returns-clause-more c = extends

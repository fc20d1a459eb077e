use Rattle.mx_load.proofs.InTurn.{next-item, whole-image}
use Rattle.mx_load.proofs.laws.items_are_loaded_in_turn.Goals as goal

pub returns-clause-next : goal.returns-clause-next
returns-clause-next c = next-item

pub returns-clause-image : goal.returns-clause-image
returns-clause-image c = whole-image

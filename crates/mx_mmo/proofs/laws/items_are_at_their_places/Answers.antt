use Rattle.mx_mmo.proofs.Sound.{items-at}
use Rattle.mx_mmo.proofs.laws.items_are_at_their_places.Goals as goal

pub returns : goal.returns
returns c = items-at

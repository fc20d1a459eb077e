use Rattle.mx_multi.specs.Joint.{no_processor}
use Rattle.mx_multi.proofs.Places.{held-at, put-at, put-placed}
use Rattle.mx_multi.proofs.seats.turn_at.Goals as goal

pub returns-clause-turn : goal.returns-clause-turn
returns-clause-turn g c = rw (held-at _ _ c.requires _ no_processor c.index_mut.ensures.value, put-at _ _ c.requires c.turn_alone.new.machine no_processor) c.turn_alone.ensures

pub returns-clause-placed : goal.returns-clause-placed
returns-clause-placed g c = put-placed _ _ c.requires _ no_processor

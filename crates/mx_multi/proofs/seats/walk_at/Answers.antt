use Rattle.mx_multi.specs.Joint.{no_processor}
use Rattle.mx_multi.proofs.Places.{held-at, put-at, put-placed}
use Rattle.mx_multi.proofs.seats.walk_at.Goals as goal

pub returns-clause-goes : goal.returns-clause-goes
returns-clause-goes c = rw (held-at _ _ c.requires _ no_processor c.index_mut.ensures.value, put-at _ _ c.requires c.walk_machine.new.machine no_processor) c.walk_machine.ensures.goes

pub returns-clause-placed : goal.returns-clause-placed
returns-clause-placed c = put-placed _ _ c.requires _ no_processor

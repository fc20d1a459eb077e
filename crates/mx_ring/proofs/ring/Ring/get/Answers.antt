use Rattle.mx_ring.specs.Stack.{register}
use Rattle.mx_ring.specs.Window.{as_list}
use Rattle.mx_ring.proofs.ring.Ring.get.Goals as goal

pub returns-clause-list : goal.returns-clause-list
unfolding register as_list
returns-clause-list c = rw (← c.self.view_is) c.get.ensures

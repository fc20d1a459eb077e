use Rattle.mx_ring.proofs.Lists.{pushed-list, popped-list}
use Rattle.mx_ring.proofs.laws.calls_go_as_lists.Goals as goal

pub returns : goal.returns
returns c = record { push = pushed-list; pop = popped-list }

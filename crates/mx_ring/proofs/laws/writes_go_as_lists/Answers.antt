use Rattle.mx_ring.proofs.Lists.{get-list, register-list, cut-list, globals-list}
use Rattle.mx_ring.proofs.laws.writes_go_as_lists.Goals as goal

pub returns : goal.returns
returns c = record { get = get-list; set = register-list; cut = cut-list; globals = globals-list }

use Rattle.mx_ring.proofs.Pushes.{local-push, marginal-push, global-push}
use Rattle.mx_ring.proofs.laws.pushes_go_by_place.Goals as goal

pub returns : goal.returns
returns c = record { local = local-push; marginal = marginal-push; global = global-push }

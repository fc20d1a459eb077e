use Rattle.std.proofs.Common.{◌∙◌, arith}
use Rattle.mx_multi.proofs.Seating.{exchanged-back}
use Rattle.mx_multi.proofs.seats.exchange_back.Goals as goal

pub returns-clause-states : goal.returns-clause-states
returns-clause-states c = let order = c.requires.order in c.exchange_in_order.ensures.states ∙ exchanged-back _ _ _ (λ e. omega (arith, order, e))

use Rattle.std.proofs.Common.{ap, get_or}
use Rattle.mx_multi.proofs.Seating.{parts-exchanged}
use Rattle.mx_multi.proofs.seats.exchange_parts.Goals as goal

pub returns-clause-states : goal.returns-clause-states
returns-clause-states c =
    let parts = c.split_at_mut-front.ensures in
    let front = c.split_at_mut-front.result.0.now in
    let back = c.split_at_mut-front.result.1.now in
    let first = c.index-front-low.result in
    let second = c.index-back-0.result in
    parts-exchanged _ _ _ _ _ (get_or front c.args.low first) (get_or back 0 second) _ _ parts.value parts.front_len c.requires.order c.requires.inside
    (ap (get_or front c.args.low) c.index-front-low.is) (ap (get_or back 0) c.index-back-0.is) c.exchange_memory.ensures.here c.exchange_memory.ensures.there

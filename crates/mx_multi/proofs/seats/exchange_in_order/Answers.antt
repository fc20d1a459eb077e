use Rattle.std.proofs.Common.{List, ◌∙◌, ap, arith, length, map}
use Rattle.mx_core.specs.Kept.{Kept, state_of}
use Rattle.mx_multi.specs.Seats.{exchanged}
use Rattle.mx_multi.proofs.Seating.{machines-written}
use Rattle.mx_multi.proofs.seats.exchange_in_order.Goals as goal

pub returns-clause-states : goal.returns-clause-states
returns-clause-states c =
    let e = c.exchange_parts.ensures in
    let count = e.count in
    let long = c.as_mut_slice.ensures.len in
    ap (map state_of) (machines-written _ _ _ (omega (arith, count, long)))
    ∙ e.states ∙ ap (λ (ks : List Kept). exchanged (map state_of ks) c.args.low c.args.high) c.as_mut_slice.ensures.value

pub returns-clause-count : goal.returns-clause-count
returns-clause-count c =
    let e = c.exchange_parts.ensures in
    let count = e.count in
    let long = c.as_mut_slice.ensures.len in
    ap (λ (ks : List Kept). length ks) (machines-written _ _ _ (omega (arith, count, long))) ∙ count ∙ ap (λ (ks : List Kept). length ks) c.as_mut_slice.ensures.value

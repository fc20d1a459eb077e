use Rattle.std.proofs.Common.{◌≤◌, ◌∙◌, ap, arith, drop, length, take}
use Rattle.mx_multi.specs.Stretches.{running}
use Rattle.mx_multi.proofs.Packed.{both-packed, names-drop, place-packed, written}
use Rattle.mx_multi.proofs.queue.leave_out_halted.Goals as goal

pub pack-packed-requires-clause-names : goal.pack-packed-requires-clause-names
pack-packed-requires-clause-names c =
    rw (c.pack-place.ensures.rest, c.as_mut_slice-names.ensures.value) (names-drop _ c.args.queue.now.at _ c.requires.names)

pub returns-clause-names : goal.returns-clause-names
returns-clause-names c =
    let lent = c.as_mut_slice-names.ensures in
    let front = c.pack-place.ensures in
    let back = c.pack-packed.ensures in
    let few = front.few in
    let count = front.count in
    let still = back.count in
    let same = lent.len in
    let long = c.len-length.ensures in
    let inside = c.requires.inside in
    let all : length c.pack-place.new.names ≤ c.len-length.result = omega (arith, count, same, long) in
    c.truncate.ensures.items
    ∙ ap (take c.pack-packed.result) (written _ _ _ (omega (arith, count, still, same)))
    ∙ both-packed _ _ _ _ _ _ _ _ (omega (arith, few, count, same, inside)) all front.packed front.rest back.packed
    ∙ ap (running c.args.halted.now) lent.value

pub returns-clause-place : goal.returns-clause-place
returns-clause-place c =
    let lent = c.as_mut_slice-names.ensures in
    let front = c.pack-place.ensures in
    let back = c.pack-packed.ensures in
    let few = front.few in
    let count = front.count in
    let still = back.count in
    let same = lent.len in
    let long = c.len-length.ensures in
    let inside = c.requires.inside in
    let all : length c.pack-place.new.names ≤ c.len-length.result = omega (arith, count, same, long) in
    ap (drop c.pack-place.result) (c.truncate.ensures.items ∙ ap (take c.pack-packed.result) (written _ _ _ (omega (arith, count, still, same))))
    ∙ place-packed _ _ _ _ _ _ _ _ (omega (arith, few, count, same, inside)) all front.packed front.rest back.packed
    ∙ ap (λ ns. running c.args.halted.now (drop c.args.queue.now.at ns)) lent.value

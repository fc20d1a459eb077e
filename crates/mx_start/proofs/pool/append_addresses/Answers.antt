use Rattle.std.proofs.Common.{arith}
use Rattle.mx_start.proofs.Pools.{item-end}
use Rattle.mx_start.proofs.pool.append_addresses.Goals as goal

pub overflow_add-next : goal.overflow_add-next
overflow_add-next c =
    let end = item-end c.loop-rest.next c.loop-rest.rest.now c.text-item.result c.in-len1-up.len_at_least c.text-item.is in
    let same = c.loop-rest.invariant.same_end in
    let most = c.requires in
    rw (c.text_size-next.ensures, c.as_slice.ensures) (omega (arith, end, same, most))

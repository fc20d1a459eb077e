use Rattle.std.proofs.Common.{◌<◌, ◌+◌, ◌^◌, arith, ap, ◌∙◌}
use Rattle.mx_start.specs.Start.{text_size}
use Rattle.mx_start.proofs.Pools.{ends-done, ends-past}
use Rattle.mx_start.proofs.pool.texts_end.Goals as goal

pub returns-in-None : goal.returns-in-None
returns-in-None c =
    let size = c.text_size.ensures ∙ ap text_size c.as_slice.ensures in
    let past : c.loop-rest.end + c.text_size.result < 2 ^ 64 → ⊥ = c.in-None.ensures in
    ends-past c.loop-rest.end _ c.loop-rest.rest.now c.text-item.result c.in-len1-up.len_at_least c.text-item.is (omega (arith, size, past)) c.loop-rest.invariant.same_end

pub returns : goal.returns
returns c = ends-done c.loop-rest.end _ c.loop-rest.rest.now c.in_default.len_below c.loop-rest.invariant.octa c.loop-rest.invariant.same_end

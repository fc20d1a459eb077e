use Rattle.std.proofs.Common.{arith, sym, ◌∙◌, length, ◌-◌}
use Rattle.mx_mmo.proofs.Names.{last-zero, last-stays}
use Rattle.mx_mmo.proofs.parts.trim_zeros.Goals as goal

pub returns-then-last-ne0 : goal.returns-then-last-ne0
returns-then-last-ne0 c =
    let name = c.loop-name.name.now in
    sym (last-stays (length name - 1) name (omega (arith, c.in-len1-up.len_at_least)) c.if-last-ne0.true) ∙ c.loop-name.invariant

pub loop-name-preserved : goal.loop-name-preserved
loop-name-preserved c =
    let name = c.loop-name.name.now in
    last-zero (length name - 1) name (omega (arith, c.in-len1-up.len_at_least)) c.if-last-ne0.false ∙ c.loop-name.invariant

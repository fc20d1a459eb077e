use Rattle.std.proofs.Common.{arith, sym}
use Rattle.mx_multi.proofs.Packed.{packs-more, packs-name, packs-none}
use Rattle.mx_multi.proofs.queue.pack.Goals as goal

pub loop-at-init : goal.loop-at-init
loop-at-init c = packs-none _ _ _ _ _ c.requires.order (let p = c.requires.part in let i = c.requires.inside in omega (arith, p, i)) c.requires.names

pub is_halted-requires : goal.is_halted-requires
is_halted-requires c = packs-name _ _ _ _ _ _ _ _ (let l = c.loop-at-test.true in let i = c.requires.inside in omega (arith, l, i)) c.loop-at.invariant

pub loop-at-preserved : goal.loop-at-preserved
loop-at-preserved c =
    let l = c.loop-at-test.true in
    let i = c.requires.inside in
    rw c.from-place.ensures (packs-more _ _ _ _ _ _ _ _ (omega (arith, l, i)) c.loop-at.invariant c.is_halted.result (sym c.is_halted.ensures))

use Rattle.std.proofs.Common.{◌-◌, get_or, arith, refl, ap}
use Rattle.mx_core.proofs.BareStarts.{value_among, all-filled, globals-begun, globals-fit, globals-next}
use Rattle.mx_core.proofs.bare.fill_globals.Goals as goal

pub loop-k-init : goal.loop-k-init
loop-k-init c =
    let byte = c.ranges.g.fits in
    rw c.from-k.ensures (globals-begun (value_among c.args.globals.now c.args.g) c.args.ring.now c.set_global_start.new.self c.args.g c.args.g c.requires.begun refl (omega (arith, byte)) c.set_global_start.ensures.window)

pub set_surely-requires : goal.set_surely-requires
set_surely-requires c = globals-fit _ _ _ c.loop-k.k c.loop-k.ring c.loop-k.invariant

pub loop-k-preserved : goal.loop-k-preserved
loop-k-preserved c = globals-next _ _ _ c.loop-k.k _ c.loop-k.ring c.set_surely.new.ring c.loop-k.invariant c.loop-k-test.true c.set_surely.ensures (ap (λ j. get_or c.args.globals.now (c.loop-k.k - j) 0) c.from.ensures)

pub returns : goal.returns
returns c = all-filled c.args.globals.now c.args.ring.now.size c.args.g c.loop-k.k c.loop-k.ring c.requires.count c.loop-k-test.false c.loop-k.invariant

use Rattle.std.proofs.Common.{refl}
use Rattle.mx_alu.specs.Numbers.{fields}
use Rattle.mx_alu.proofs.Places.{differences-next, room}
use Rattle.mx_alu.proofs.bitwise.differences.Goals as goal

pub loop-i-init : goal.loop-i-init
unfolding fields
loop-i-init c = refl

pub loop-i-preserved : goal.loop-i-preserved
loop-i-preserved c =
    rw (c.loop-i.invariant, c.saturating_sub-difference.ensures, c.field.ensures, c.field-in-loop-i.ensures)
    (differences-next c.args.width c.loop-i.i c.args.y c.args.z (room c.args.width c.loop-i.i c.requires c.loop-i-test.true))

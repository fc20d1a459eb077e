use Rattle.std.proofs.Common.{arith, refl}
use Rattle.mx_registers.proofs.Few.{first_below}
use Rattle.mx_ring.proofs.hiding.hide_few_below.Goals as goal

pub returns : goal.returns
returns c =
    rw (c.append_with_count.ensures, c.registers_below.ensures, first_below c.args.visible.now c.args.count c.args.size (omega arith)) refl

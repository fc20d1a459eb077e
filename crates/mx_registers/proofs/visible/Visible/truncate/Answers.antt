use Rattle.std.proofs.Common.{◌≤◌, length}
use Rattle.mx_registers.proofs.Values.{cut-has}
use Rattle.mx_registers.specs.Parts.{registers_in}
use Rattle.mx_registers.proofs.visible.Visible.truncate.Goals as goal

pub invariant_of-self : goal.invariant_of-self
invariant_of-self c =
    let f : c.args.l ≤ length (registers_in c.self.inside).locals = rw (← c.self.view_is) at c.requires in
    (cut-has c.self.inside c.args.l c.fill_with_zeros.new.items c.self.invariant f c.fill_with_zeros.ensures).0

pub returns : goal.returns
returns c =
    let f : c.args.l ≤ length (registers_in c.self.inside).locals = rw (← c.self.view_is) at c.requires in
    rw (← c.self.view_is) ((cut-has c.self.inside c.args.l c.fill_with_zeros.new.items c.self.invariant f c.fill_with_zeros.ensures).1)

use Rattle.std.proofs.Common.{◌≤◌, length}
use Rattle.mx_registers.proofs.Values.{globals-has}
use Rattle.mx_registers.specs.Parts.{registers_in}
use Rattle.mx_registers.proofs.visible.Visible.set_globals_from.Goals as goal

pub invariant_of-self : goal.invariant_of-self
invariant_of-self c =
    let f : length (registers_in c.self.inside).locals ≤ c.args.g = rw (← c.self.view_is) at c.requires.not_local in
    (globals-has c.self.inside c.args.g c.max-end.result c.fill_with_zeros.new.items c.self.invariant f c.requires.least c.requires.most c.max-end.ensures c.fill_with_zeros.ensures).0

pub returns : goal.returns
returns c =
    let f : length (registers_in c.self.inside).locals ≤ c.args.g = rw (← c.self.view_is) at c.requires.not_local in
    rw (← c.self.view_is) ((globals-has c.self.inside c.args.g c.max-end.result c.fill_with_zeros.new.items c.self.invariant f c.requires.least c.requires.most c.max-end.ensures c.fill_with_zeros.ensures).1)

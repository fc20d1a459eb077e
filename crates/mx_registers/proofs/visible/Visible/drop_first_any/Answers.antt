use Rattle.std.proofs.Common.{◌≡◌, ◌-◌, length}
use Rattle.mx_registers.proofs.Values.{from-has, stays}
use Rattle.mx_registers.specs.Parts.{registers_in}
use Rattle.mx_registers.proofs.visible.Visible.drop_first_any.Goals as goal

pub invariant_of-self : goal.invariant_of-self
invariant_of-self c =
    let e : c.args.count ≡ length (registers_in c.self.inside).locals - c.args.n = rw (← c.self.view_is) at c.requires in
    (from-has c.self.inside c.args.n c.args.count c.copy_within.new.items c.fill_with_zeros.new.items c.self.invariant (stays c.self.inside c.args.n c.args.count c.self.invariant e) c.copy_within.ensures c.fill_with_zeros.ensures).0

pub returns : goal.returns
returns c =
    let e : c.args.count ≡ length (registers_in c.self.inside).locals - c.args.n = rw (← c.self.view_is) at c.requires in
    rw (← c.self.view_is) ((from-has c.self.inside c.args.n c.args.count c.copy_within.new.items c.fill_with_zeros.new.items c.self.invariant (stays c.self.inside c.args.n c.args.count c.self.invariant e) c.copy_within.ensures c.fill_with_zeros.ensures).1)

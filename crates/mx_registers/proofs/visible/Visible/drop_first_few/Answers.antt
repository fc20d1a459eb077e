use Rattle.std.proofs.Common.{◌≡◌, ◌≤◌, ◌+◌, ◌-◌, length}
use Rattle.mx_registers.proofs.Few.{few-has}
use Rattle.mx_registers.proofs.Values.{stays}
use Rattle.mx_registers.specs.Parts.{registers_in}
use Rattle.mx_registers.proofs.visible.Visible.drop_first_few.Goals as goal

pub invariant_of-self : goal.invariant_of-self
invariant_of-self c =
    let e : c.args.count ≡ length (registers_in c.self.inside).locals - c.args.n = rw (← c.self.view_is) at c.requires.count in
    let f : c.args.n + 8 ≤ (registers_in c.self.inside).first_global = rw (← c.self.view_is) at c.requires.room in
    (few-has c.self.inside c.args.n c.args.count 8 c.move_few.new.values c.self.invariant (stays c.self.inside c.args.n c.args.count c.self.invariant e) c.requires.few f c.move_few.ensures).0

pub returns : goal.returns
returns c =
    let e : c.args.count ≡ length (registers_in c.self.inside).locals - c.args.n = rw (← c.self.view_is) at c.requires.count in
    let f : c.args.n + 8 ≤ (registers_in c.self.inside).first_global = rw (← c.self.view_is) at c.requires.room in
    rw (← c.self.view_is) ((few-has c.self.inside c.args.n c.args.count 8 c.move_few.new.values c.self.invariant (stays c.self.inside c.args.n c.args.count c.self.invariant e) c.requires.few f c.move_few.ensures).1)

use Rattle.std.proofs.Common.{◌≡◌, ◌≤◌, ◌+◌, ◌-◌, length, arith, sym, ◌∙◌}
use Rattle.mx_registers.proofs.Few.{few-has, zeros-none}
use Rattle.mx_registers.proofs.Values.{stays, HasRegisters}
use Rattle.mx_registers.specs.Parts.{registers_in}
use Rattle.mx_registers.specs.Registers.{registers_from}
use Rattle.mx_registers.proofs.visible.Visible.drop_first_fewer.Goals as goal

moved : (c : goal.After-self-1) → HasRegisters (record c.self.inside { values = c.move_fewer.new.values; local_count = c.args.count }) (registers_from (registers_in c.self.inside) c.args.n)
moved c =
    let e : c.args.count ≡ length (registers_in c.self.inside).locals - c.args.n = rw (← c.self.view_is) at c.requires.count in
    let f : c.args.n + c.args.size ≤ (registers_in c.self.inside).first_global = rw (← c.self.view_is) at c.requires.room in
    let l : length (registers_in c.self.inside).locals ≤ c.args.size = rw (← c.self.view_is) at c.requires.few in
    let few : c.self.inside.local_count ≤ c.args.size = omega (arith, l, c.self.invariant.all_locals) in
    few-has c.self.inside c.args.n c.args.count c.args.size c.move_fewer.new.values c.self.invariant (stays c.self.inside c.args.n c.args.count c.self.invariant e) (omega (arith, e, l)) f (c.move_fewer.ensures ∙ sym (zeros-none _ c.self.inside.local_count c.args.size few))

pub invariant_of-self : goal.invariant_of-self
invariant_of-self c = (moved c).0

pub returns : goal.returns
returns c = rw (← c.self.view_is) ((moved c).1)

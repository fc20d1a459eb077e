use Rattle.std.proofs.Common.{◌≤◌, ◌+◌, length, take}
use Rattle.mx_registers.proofs.Eight.{returned-has}
use Rattle.mx_registers.proofs.Values.{HasRegisters}
use Rattle.mx_registers.specs.Parts.{registers_in}
use Rattle.mx_registers.specs.Registers.{with_returned}
use Rattle.mx_registers.proofs.visible.Visible.bring_few_back.Goals as goal

came-back : (c : goal.After-self-1) → HasRegisters (record c.self.inside { values = c.put_few.new.front; local_count = c.args.n + c.args.x }) (with_returned (registers_in c.self.inside) (take c.args.n c.args.octas.now) c.args.x)
came-back c =
    let few : length (registers_in c.self.inside).locals ≤ 8 = rw (← c.self.view_is) at c.requires.locals in
    let among : c.args.x ≤ length (registers_in c.self.inside).locals = rw (← c.self.view_is) at c.requires.among in
    returned-has c.self.inside c.args.octas.now c.put_few.new.front c.args.n c.args.x c.self.invariant c.requires.octas c.requires.few few c.requires.one among c.put_few.ensures

pub invariant_of-self : goal.invariant_of-self
invariant_of-self c = (came-back c).0

pub returns : goal.returns
returns c = rw (← c.self.view_is) ((came-back c).1)

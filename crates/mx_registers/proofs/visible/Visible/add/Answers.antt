use Rattle.std.proofs.Common.{◌≡◌, true}
use Rattle.mx_registers.proofs.Values.{add-has}
use Rattle.mx_registers.specs.Parts.{registers_in}
use Rattle.mx_registers.specs.Registers.{is_marginal}
use Rattle.mx_registers.proofs.visible.Visible.add.Goals as goal

pub invariant_of-self : goal.invariant_of-self
invariant_of-self c =
    let m : is_marginal (registers_in c.self.inside) c.args.k ≡ true = rw (← c.self.view_is) at c.requires in
    rw c.from-k.ensures ((add-has c.self.inside c.args.k c.args.x c.self.invariant m).0)

pub returns : goal.returns
returns c =
    let m : is_marginal (registers_in c.self.inside) c.args.k ≡ true = rw (← c.self.view_is) at c.requires in
    rw (← c.self.view_is, c.from-k.ensures) ((add-has c.self.inside c.args.k c.args.x c.self.invariant m).1)

use Rattle.std.proofs.Common.{List, ℕ, ◌-◌, ◌++◌, ◌^◌, ◌∙◌, ap, sym, take, drop}
use Rattle.mx_registers.proofs.Areas.{filled-slice}
use Rattle.mx_registers.proofs.area.Area.hide.Goals as goal

pub returns-clause-octas : goal.returns-clause-octas
returns-clause-octas c =
    let octas = c.fill_up.new.octas.items in
    let slice = filled-slice (2 ^ 20) c.args.from c.args.to octas c.requires.forward c.fill_up.ensures.enough in
    let now = ap (λ (os : List ℕ). take (c.args.to - c.args.from) (drop c.args.from os)) c.fill_up.ensures.same in
    rw (← c.self.view_is) (rw c.deref.ensures.value at c.append.ensures.octas ∙ ap (λ (os : List ℕ). c.args.list.now.octas ++ os) (sym slice ∙ now))

use Rattle.std.proofs.Common.{◌^◌, ◌∙◌, ap}
use Rattle.mx_word.specs.Lists.{with_part}
use Rattle.mx_registers.proofs.Areas.{filled-part}
use Rattle.mx_registers.specs.StackArea.{filled}
use Rattle.mx_registers.proofs.area.Area.write.Goals as goal

pub returns : goal.returns
returns c =
    let octas = c.fill_up.new.octas.items in
    rw (← c.self.view_is) (ap (filled (2 ^ 20)) c.write.ensures.items ∙ filled-part (2 ^ 20) c.args.place octas c.args.octas.now c.fill_up.ensures.enough ∙ ap (λ os. with_part os c.args.place c.args.octas.now) c.fill_up.ensures.same)

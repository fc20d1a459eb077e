use Rattle.std.proofs.Common.{◌≤◌, ◌<◌, ◌^◌, length, arith, sym, ◌∙◌}
use Rattle.std.proofs.lemmas.List.{get_or_read}
use Rattle.mx_registers.proofs.Areas.{filled-kept, filled-after}
use Rattle.mx_registers.proofs.area.Area.octa.Goals as goal

pub returns-then-i-len : goal.returns-then-i-len
returns-then-i-len c =
    let octas = c.self.inside.octas.items in
    let within : c.args.i < length octas = omega (arith, c.len.ensures, c.if-i-len.true, c.self.inside.octas.ok) in
    rw (← c.self.view_is) (get_or_read octas c.args.i c.index.result.now within c.index.ensures 0 ∙ sym (filled-kept (2 ^ 20) c.args.i octas within))

pub returns-else-i-len : goal.returns-else-i-len
returns-else-i-len c =
    let octas = c.self.inside.octas.items in
    let following : length octas ≤ c.args.i = omega (arith, c.len.ensures, c.if-i-len.false, c.self.inside.octas.ok) in
    rw (← c.self.view_is) (sym (filled-after (2 ^ 20) c.args.i octas following))

use Rattle.std.proofs.Common.{◌≡◌, refl, sym, ap, ◌∙◌}
use Rattle.mx_core.specs.Way.Calls.{left}
use Rattle.mx_core.specs.Effects.{alu_answer, y_operand, z_operand}
use Rattle.mx_core.specs.Kept.{state_of}
use Rattle.mx_core.proofs.Results.Events.{compute_given}
use Rattle.mx_core.proofs.machine.Machine.compute_noted.Goals as goal

pub returns-in-Some-clause-made : goal.returns-in-Some-clause-made
returns-in-Some-clause-made c = λ n.
    let s = state_of c.args.self.now in
    let i = c.args.i.now in
    let a = c.in-Some.a in
    let is : a ≡ alu_answer s i (y_operand s i) (z_operand s i) = c.in-Some.ensures.answer ∙ rw (c.code.ensures, c.y_operand-y.ensures, c.z_operand-z.ensures, c.extra.ensures) refl in
    c.give_answer_noted.ensures.made n ∙ ap (left s) (sym (compute_given s i a is c.in-Some.ensures.event))

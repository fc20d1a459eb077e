use Rattle.std.proofs.Common.{◌≡◌, Ok, refl, sym, ap, ◌∙◌}
use Rattle.mx_alu.specs.declared.insertion.Insert.TheVariants as insert
use Rattle.mx_core.specs.Way.Calls.{left}
use Rattle.mx_core.specs.Kept.{state_of}
use Rattle.mx_core.specs.State.{State}
use Rattle.mx_core.proofs.Results.Resumes.{insertion_in, resume_as, back_done}
use Rattle.mx_core.proofs.machine.Machine.resume.Goals as goal

pub returns-in-Back-clause-answer : goal.returns-in-Back-clause-answer
returns-in-Back-clause-answer c = λ m.
    let s = state_of c.args.self.now in
    let same : insert.Back c.in-Back.address ≡ insertion_in s = sym c.in-Back.is ∙ c.inserted.ensures ∙ rw (c.special.ensures, c.special-2.ensures, c.l.ensures, c.g.ensures) refl in
    ap (λ (t : State). (Ok tt, t)) c.go_to.ensures
    ∙ ap (left s) (sym (resume_as s c.args.i.now c.xyz.result (insert.Back c.in-Back.address) c.xyz.ensures.value c.if-xyz-ne0.false same ∙ back_done s c.args.i.now c.in-Back.address))

use Rattle.std.proofs.Common.{sym, ap, ◌∙◌}
use Rattle.mx_core.specs.Kept.{state_of}
use Rattle.mx_run.specs.FlagMaps.{flags_at}
use Rattle.mx_con.specs.Judgement.{subject_bad}
use Rattle.mx_con.proofs.Parts.{part-with}
use Rattle.mx_con.proofs.ReplyPlans.{show-refused, show-comes}
use Rattle.mx_con.proofs.replies.show.Goals as goal

pub returns-in-Some-clause-part : goal.returns-in-Some-clause-part
returns-in-Some-clause-part g c =
    part-with _ _ c.refuse.ensures (λ h. show-refused _ c.args.subject c.args.form c.in-Some.bad _ _ _ _ c.refuse.result
    (sym (ap (λ k. subject_bad (state_of k) c.args.subject) c.machine.ensures) ∙ sym c.subject_bad.ensures.value ∙ c.in-Some.is) h)

pub returns-in-None-clause-part : goal.returns-in-None-clause-part
returns-in-None-clause-part g c =
    rw c.show_sound.ensures.shown
    (part-with _ _ c.show_sound.ensures.part (λ h. show-comes _ c.args.subject c.args.form _ _ _ _ _ _ c.show_sound.result
    (sym (ap (λ k. subject_bad (state_of k) c.args.subject) c.machine.ensures) ∙ sym c.subject_bad.ensures.value ∙ c.in-None.is)
    c.show_sound.ensures.noted (ap flags_at c.show_sound.ensures.flags) h))

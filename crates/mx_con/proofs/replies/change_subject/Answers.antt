use Rattle.std.proofs.Common.{sym, ap, ◌∙◌}
use Rattle.mx_core.specs.Kept.{state_of}
use Rattle.mx_con.specs.Judgement.{subject_bad}
use Rattle.mx_con.proofs.Parts.{part-with}
use Rattle.mx_con.proofs.ReplyPlans.{change-unread, change-refused}
use Rattle.mx_con.proofs.replies.change_subject.Goals as goal

pub returns-in_default-clause-part : goal.returns-in_default-clause-part
returns-in_default-clause-part g c = rw c.in_default.is (part-with _ _ c.refuse.ensures (λ h. change-unread _ c.args.subject _ _ _ _ c.refuse.result h))

pub returns-in-Some-subject_bad-clause-part : goal.returns-in-Some-subject_bad-clause-part
returns-in-Some-subject_bad-clause-part g c =
    rw c.in-Some.is (part-with _ _ c.refuse-in-Some-subject_bad.ensures (λ h. change-refused _ c.args.subject c.in-Some.value c.in-Some-subject_bad.bad _ _ _ _ c.refuse-in-Some-subject_bad.result
    (sym (ap (λ k. subject_bad (state_of k) c.args.subject) c.machine.ensures) ∙ sym c.subject_bad.ensures.value ∙ c.in-Some-subject_bad.is) h))

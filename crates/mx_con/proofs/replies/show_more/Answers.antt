use Rattle.std.proofs.Common.{sym, ◌∙◌}
use Rattle.mx_con.proofs.Parts.{part-with}
use Rattle.mx_con.proofs.ReplyPlans.{more-unread, more-refused}
use Rattle.mx_con.proofs.replies.show_more.Goals as goal

pub returns-in_default-clause-part : goal.returns-in_default-clause-part
returns-in_default-clause-part g c = rw c.in_default.is (part-with _ _ c.refuse.ensures (λ h. more-unread _ c.args.form _ _ _ _ c.refuse.result h))

pub returns-in-Some-more_bad-clause-part : goal.returns-in-Some-more_bad-clause-part
returns-in-Some-more_bad-clause-part g c =
    rw c.in-Some.is (part-with _ _ c.refuse-in-Some-more_bad.ensures (λ h. more-refused _ c.in-Some.n c.args.form c.in-Some-more_bad.bad _ _ _ _ c.refuse-in-Some-more_bad.result
    (sym c.more_bad.ensures ∙ c.in-Some-more_bad.is) h))

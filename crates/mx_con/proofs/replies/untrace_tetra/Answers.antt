use Rattle.std.proofs.Common.{sym, ◌∙◌}
use Rattle.mx_con.proofs.Parts.{part-with}
use Rattle.mx_con.proofs.ReplyPlans.{untrace-refused}
use Rattle.mx_con.proofs.replies.untrace_tetra.Goals as goal

pub returns-in-Some-clause-part : goal.returns-in-Some-clause-part
returns-in-Some-clause-part g c = λ shown.
    part-with _ _ c.refuse.ensures (λ h. untrace-refused shown c.args.a c.in-Some.bad _ _ _ _ c.refuse.result (sym c.flag_bad.ensures ∙ c.in-Some.is) h)

use Rattle.std.proofs.Common.{◌∙◌, ap}
use Rattle.mx_run.specs.FlagMaps.{flags_at}
use Rattle.mx_con.proofs.Parts.{part-with}
use Rattle.mx_con.proofs.ReplyPlans.{change-comes, change-not_allowed}
use Rattle.mx_con.proofs.replies.change_sound.Goals as goal

pub returns-in-Ok-clause-part : goal.returns-in-Ok-clause-part
returns-in-Ok-clause-part g c =
    rw c.show_sound.ensures.shown
    (part-with _ _ c.show_sound.ensures.part (λ h. change-comes _ c.args.subject c.args.value _ _ _ _ _ _ _ c.show_sound.result c.requires.good (c.in-Ok.ensures.ok (λ e. absurd (cc)))
    c.show_sound.ensures.noted (ap flags_at (c.show_sound.ensures.flags ∙ c.in-Ok.ensures.flags)) h))

pub returns-in-Err-NotAllowed-clause-part : goal.returns-in-Err-NotAllowed-clause-part
returns-in-Err-NotAllowed-clause-part g c =
    part-with _ _ c.refuse.ensures (λ h. change-not_allowed _ c.args.subject c.args.value _ _ _ _ _ _ _ c.refuse.result c.requires.good (c.in-Err-NotAllowed.ensures.ok (λ e. absurd (cc)))
    c.in-Err-NotAllowed.ensures.err (ap flags_at c.in-Err-NotAllowed.ensures.flags) h)

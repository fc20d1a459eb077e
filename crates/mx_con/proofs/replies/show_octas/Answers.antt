use Rattle.std.proofs.Common.{ap, ◌∙◌}
use Rattle.mx_core.specs.Kept.{state_of}
use Rattle.mx_run.specs.FlagMaps.{flags_at}
use Rattle.mx_con.specs.Replies.{noted_if}
use Rattle.mx_con.proofs.Parts.{part-with}
use Rattle.mx_con.proofs.ReplyPlans.{more-comes}
use Rattle.mx_con.proofs.replies.show_octas.Goals as goal

pub returns-clause-part : goal.returns-clause-part
returns-clause-part g c =
    part-with _ _ (rw c.machine.ensures at c.write_octas.ensures) (λ h. more-comes _ c.args.n c.in-Some.a c.args.form _ _ _ _ _ _ c.write_octas.result c.requires c.in-Some.is
    (c.note_if.ensures.state ∙ ap (λ b. noted_if b (state_of c.args.runner.now.machine)) c.is_in_stack_segment.ensures)
    (ap flags_at c.note_if.ensures.flags) h)

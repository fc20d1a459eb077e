use Rattle.std.proofs.Common.{◌≡◌, ◌∙◌, ap}
use Rattle.mx_cmd.specs.Commands.{command_of}
use Rattle.mx_con.specs.LinePlans.{without_return}
use Rattle.mx_plan.proofs.KeptHosts.{keeps_host-all}
use Rattle.mx_con.proofs.ListedSessions.{line-carried, line-over}
use Rattle.mx_con.proofs.Parts.{part-after, mapped-again}
use Rattle.mx_con.proofs.sessions.one_line.Goals as goal

pub returns-in-Ok-clause-part : goal.returns-in-Ok-clause-part
returns-in-Ok-clause-part g c =
    let read = c.as_slice.ensures in
    let seen : c.as_slice.result.now ≡ c.in-Ok.line = cc in
    part-after c.in-Ok.ensures.keeps c.obey_line.ensures.part (mapped-again _ _ c.obey_line.result)
    (λ t h. line-carried c.args.steps _ _ _ _ _ c.parse_command-command.result _ _ _ _ _ c.obey_line.result (c.in-Ok.ensures.told t)
    (c.parse_command-command.ensures ∙ ap command_of (c.without_return.ensures ∙ ap without_return seen)) h)

pub returns-in-Err-clause-part : goal.returns-in-Err-clause-part
returns-in-Err-clause-part g c = part-after (keeps_host-all _ _) c.in-Err.ensures (λ e. cc) (λ t h. line-over c.args.steps _ _ c.in-Err.end _ _ _ _ h)

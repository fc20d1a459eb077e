use Rattle.std.proofs.Common.{ap, ◌∙◌}
use Rattle.mx_stab.specs.Writing.{bytes_due}
use Rattle.mx_stab.proofs.Groups.{bytes_due-push}
use Rattle.mx_stab.proofs.writing.note.Goals as goal

pub returns-clause-due : goal.returns-clause-due
returns-clause-due c = ap bytes_due c.in_ok-push.ensures.items ∙ bytes_due-push c.args.pending.now.items _

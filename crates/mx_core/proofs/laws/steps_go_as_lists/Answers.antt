use Rattle.mx_core.proofs.Same.Steps.{step-listed, step-unread}
use Rattle.mx_core.proofs.Same.Wild.{same-wild}
use Rattle.mx_core.proofs.laws.steps_go_as_lists.Goals as goal

pub returns : goal.returns
returns c = record { step = step-listed; wild = same-wild; unread = step-unread }

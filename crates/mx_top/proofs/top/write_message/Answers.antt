use Rattle.mx_top.proofs.Saying.{message-made, message-lacks}
use Rattle.mx_top.proofs.top.write_message.Goals as goal

pub returns-in-Ok-clause-plan : goal.returns-in-Ok-clause-plan
returns-in-Ok-clause-plan g c = message-made _ _ _ _ _ _ c.as_slice.ensures c.in-Ok.ensures.text c.write_line.ensures.plan

pub returns-in-Err-clause-plan : goal.returns-in-Err-clause-plan
returns-in-Err-clause-plan g c = message-lacks _ _ c.in-Err.ensures.memory

pub returns-in-Ok-clause-keeps : goal.returns-in-Ok-clause-keeps
returns-in-Ok-clause-keeps g c = c.write_line.ensures.keeps

use Rattle.mx_multi.proofs.Seating.{turns-back}
use Rattle.mx_multi.proofs.multi.Multi.run.Goals as goal

pub returns-clause-turns : goal.returns-clause-turns
returns-clause-turns g c = rw (← c.self.view_is) (turns-back _ _ _ _ _ _ _ _ _ _ _ c.lend.ensures.joint c.give_back.ensures.joint c.run_seats-end.ensures.turns)

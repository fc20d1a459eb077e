use Rattle.mx_multi.proofs.Seating.{takes-back}
use Rattle.mx_multi.proofs.multi.Multi.make_turn.Goals as goal

pub returns-clause-turn : goal.returns-clause-turn
returns-clause-turn g c = rw (← c.self.view_is) (takes-back _ _ _ _ _ _ _ _ _ _ c.lend.ensures.joint c.give_back.ensures.joint c.turn-answer.ensures.turn)

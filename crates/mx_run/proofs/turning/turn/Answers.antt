use Rattle.mx_run.proofs.Runners.{turn-is}
use Rattle.mx_run.proofs.turning.turn.Goals as goal

pub returns-clause-turn : goal.returns-clause-turn
returns-clause-turn g c = turn-is _ _ _ _ _ _ _ c.make_turn.ensures.has_window c.make_turn.ensures.told c.make_turn.ensures.bound c.make_turn.ensures.keeps

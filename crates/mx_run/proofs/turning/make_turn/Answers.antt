use Rattle.mx_run.proofs.Later.{stepped-later}
use Rattle.mx_run.proofs.TurnAnswers.{went-spares, calls-none}
use Rattle.mx_run.proofs.turning.make_turn.Goals as goal

pub returns-in-Went-clause-bound : goal.returns-in-Went-clause-bound
returns-in-Went-clause-bound g c = stepped-later _ _ _ (c.in-Went.ensures.answer (λ e. absurd (cc)))

pub returns-in-Went-clause-spared : goal.returns-in-Went-clause-spared
returns-in-Went-clause-spared g c = λ n h. went-spares n _ _ _ (c.in-Went.ensures.answer (λ e. absurd (cc))) h

pub returns-in-Trap-clause-spared : goal.returns-in-Trap-clause-spared
returns-in-Trap-clause-spared g c = λ n h. absurd (calls-none n _ _ c.in-Trap.call (c.in-Trap.ensures.answer (λ e. absurd (cc))) h)

use Rattle.mx_back.proofs.KeptSteps.{left-fits, left-kept}
use Rattle.mx_back.proofs.trapping.trap_kept.Goals as goal

pub returns-clause-fits : goal.returns-clause-fits
returns-clause-fits g c = left-fits _ c.trap_turn-answer.result _ _ _ _ c.may_change.ensures c.forget_where.ensures c.trap_turn-answer.ensures.same c.requires.noted

pub returns-clause-kept : goal.returns-clause-kept
returns-clause-kept g c = left-kept _ c.trap_turn-answer.result _ _ _ _ c.may_change.ensures c.forget_where.ensures c.trap_turn-answer.ensures.same

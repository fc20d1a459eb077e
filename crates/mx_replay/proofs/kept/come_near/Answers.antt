use Rattle.mx_replay.proofs.kept.come_near.Goals as goal

pub returns-clause-kept : goal.returns-clause-kept
returns-clause-kept c = λ p s a. c.keep_near.ensures p (c.in_ok-go_keeping.ensures.step p s).0 (c.in_ok-go_keeping.ensures.kept p s a)

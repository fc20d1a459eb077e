use Rattle.mx_replay.proofs.replay.Replay.visit_start.Goals as goal

pub start_again-requires-clause-kept : goal.start_again-requires-clause-kept
start_again-requires-clause-kept c = λ x e. let is = c.take.ensures.value in c.self.invariant.2 x (cc)

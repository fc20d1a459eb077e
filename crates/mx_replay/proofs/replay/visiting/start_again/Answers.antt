use Rattle.mx_replay.proofs.replay.visiting.start_again.Goals as goal

pub returns-in-Some : goal.returns-in-Some
returns-in-Some c = let is = c.in-Some.is in c.requires.kept _ (cc)

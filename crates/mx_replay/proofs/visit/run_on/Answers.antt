use Rattle.mx_replay.proofs.RunEnds.{all-made, last-made}
use Rattle.mx_replay.proofs.visit.run_on.Goals as goal

pub returns-in-Spent : goal.returns-in-Spent
returns-in-Spent c = all-made _ _ _ _ _ c.in-Spent.ensures.run.told

pub returns-in_default : goal.returns-in_default
returns-in_default c =
    last-made _ _ _ _ _ _ _ _ _ c.ranges.n.fits c.steps-before.type_inv c.steps-before.ensures c.steps.ensures c.in_default.not-OutOfMemory c.in_default.not-Spent c.run_freely.ensures.run.told c.turns_between.ensures

use Rattle.std.proofs.Common.{refl}
use Rattle.mx_walk.proofs.Turns.{at-start}
use Rattle.mx_walk.proofs.walk.Walk.begin.Goals as goal

pub returns-clause-at : goal.returns-clause-at
returns-clause-at c = at-start _ c.in_ok-new.ensures.start c.new-2.ensures refl

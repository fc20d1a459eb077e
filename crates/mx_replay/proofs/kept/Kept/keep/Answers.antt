use Rattle.std.proofs.Common.{subst, sym}
use Rattle.mx_replay.specs.Keeping.{AreSteps}
use Rattle.mx_replay.proofs.kept.Kept.keep.Goals as goal

pub returns : goal.returns
returns c = λ p s a. c.widen.ensures p (c.drop_near.ensures p (c.add.ensures p s (subst (AreSteps p) (sym c.self.view_is) a)))

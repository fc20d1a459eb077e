use Rattle.std.proofs.Common.{subst, sym}
use Rattle.mx_replay.specs.Keeping.{AreSteps}
use Rattle.mx_replay.proofs.kept.Kept.keep_near.Goals as goal

pub returns-then-is_small : goal.returns-then-is_small
returns-then-is_small c = λ p s a. c.add.ensures p s (subst (AreSteps p) (sym c.self.view_is) (c.thin_out.ensures p a))

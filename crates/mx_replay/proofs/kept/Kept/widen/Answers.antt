use Rattle.std.proofs.Common.{subst, sym}
use Rattle.mx_replay.specs.Keeping.{AreSteps}
use Rattle.mx_replay.proofs.kept.Kept.widen.Goals as goal

pub returns-then-as_slice-gt-MOST_KEPT : goal.returns-then-as_slice-gt-MOST_KEPT
returns-then-as_slice-gt-MOST_KEPT c = λ p a. c.thin_out.ensures p (subst (AreSteps p) (sym c.self.view_is) a)

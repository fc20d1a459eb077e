use Rattle.std.proofs.Common.{subst, sym, ◌∙◌}
use Rattle.mx_replay.specs.Keeping.{AreSteps}
use Rattle.mx_replay.proofs.kept.Kept.thin_out.Goals as goal

pub returns : goal.returns
returns c = λ p a. c.thin_visits.ensures p (subst (AreSteps p) (sym (c.replace-visits.ensures.value ∙ c.self.view_is)) a)

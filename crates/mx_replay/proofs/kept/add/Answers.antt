use Rattle.std.proofs.Common.{subst, sym}
use Rattle.mx_replay.specs.Visits.{IsStep}
use Rattle.mx_replay.proofs.Keeping.{step-pushed}
use Rattle.mx_replay.proofs.kept.add.Goals as goal

pub returns-in-Ok : goal.returns-in-Ok
returns-in-Ok c = λ p s a. step-pushed p _ _ _ c.push-kept.result c.push-kept.ensures.ok c.push-kept.ensures.err (subst (IsStep p) (sym c.in-Ok.ensures) s) a

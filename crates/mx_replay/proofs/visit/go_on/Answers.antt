use Rattle.std.proofs.Common.{arith, refl}
use Rattle.mx_replay.proofs.Keeping.{all-made}
use Rattle.mx_replay.proofs.Steps.{gone-on}
use Rattle.mx_replay.proofs.visit.go_on.Goals as goal

pub returns-clause-step : goal.returns-clause-step
returns-clause-step c = λ p s. gone-on _ _ _ _ _ _ _ c.is_over.ensures c.if-is_over.false c.in_ok-made.ensures refl (omega (arith, c.requires)) s

pub returns-clause-early : goal.returns-clause-early
returns-clause-early c = all-made _ _ _ _ _ (omega (arith, c.requires)) c.in_ok-made.ensures.few c.in_ok-made.ensures.early

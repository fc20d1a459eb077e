use Rattle.std.proofs.Common.{ap, subst}
use Rattle.mx_replay.specs.Searches.{Replayed}
use Rattle.mx_replay.specs.Visits.{IsStep}
use Rattle.mx_replay.proofs.replay.Replay.visit_before.Goals as goal

pub returns-in-Some-clause-step : goal.returns-in-Some-clause-step
returns-in-Some-clause-step c =
    subst (λ p. IsStep p c.in-Some.visit) (ap (λ (r : Replayed). r.program) c.self.view_is) (c.in-Some.ensures.step _ c.self.invariant.3)

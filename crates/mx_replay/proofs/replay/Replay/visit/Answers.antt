use Rattle.std.proofs.Common.{ap, subst, sym, ◌∙◌}
use Rattle.mx_replay.specs.Searches.{Replayed}
use Rattle.mx_replay.specs.Visits.{IsStep}
use Rattle.mx_replay.proofs.replay.Replay.visit.Goals as goal

pub invariant_of-self : goal.invariant_of-self
invariant_of-self c =
    let here = subst (λ p. IsStep p c.in_ok-visit.visit) (sym (ap (λ (r : Replayed). r.program) (c.self.view_is ∙ c.in_ok-visit.ensures.same))) c.in_ok-visit.ensures.step in
    (c.self.invariant.0, c.self.invariant.1, c.self.invariant.2, c.go_near.ensures.kept _ here c.self.invariant.3)

pub invariant_of-self-2 : goal.invariant_of-self-2
invariant_of-self-2 c =
    let here = subst (λ p. IsStep p c.in_ok-visit.visit) (sym (ap (λ (r : Replayed). r.program) (c.self.view_is ∙ c.in_ok-visit.ensures.same))) c.in_ok-visit.ensures.step in
    (c.self.invariant.0, c.self.invariant.1, c.self.invariant.2, c.go_near.ensures.kept _ here c.self.invariant.3)

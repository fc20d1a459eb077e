use Rattle.std.proofs.Common.{arith, subst, sym, ◌∙◌}
use Rattle.mx_replay.specs.Searches.{Replayed}
use Rattle.mx_replay.specs.Visits.{IsStart}
use Rattle.mx_replay.proofs.Found.{start-last, start-none}
use Rattle.mx_replay.proofs.replay.Replay.find_last_marked.Goals as goal

pub returns-then-has_mark_at_start-clause-last : goal.returns-then-has_mark_at_start-clause-last
returns-then-has_mark_at_start-clause-last c =
    let at_start = subst (λ (r : Replayed). IsStart r.program c.in_ok-start.start) c.loop-end.invariant.0 c.in_ok-start.ensures.start in
    start-last _ _ _ _ _ (omega (arith, c.loop-end-test.false)) (sym c.if-has_mark_at_start.true ∙ c.has_mark_at_start.ensures) at_start c.loop-end.invariant.1

pub returns-clause-last : goal.returns-clause-last
returns-clause-last c =
    let at_start = subst (λ (r : Replayed). IsStart r.program c.in_ok-start.start) c.loop-end.invariant.0 c.in_ok-start.ensures.start in
    start-none _ _ _ _ _ (omega (arith, c.loop-end-test.false)) (sym c.if-has_mark_at_start.false ∙ c.has_mark_at_start.ensures) at_start c.loop-end.invariant.1

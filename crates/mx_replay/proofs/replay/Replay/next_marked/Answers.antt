use Rattle.std.proofs.lemmas.Option.{same_Some}
use Rattle.std.proofs.Common.{subst}
use Rattle.mx_replay.specs.Visits.{IsStart}
use Rattle.mx_replay.proofs.Keeping.{no-start}
use Rattle.mx_replay.proofs.replay.Replay.next_marked.Goals as goal

pub start_again-requires-clause-kept : goal.start_again-requires-clause-kept
start_again-requires-clause-kept c = λ x e. let is = c.take.ensures.value in c.self.invariant.2 x (cc)

pub invariant_of-self-in-Ok : goal.invariant_of-self-in-Ok
invariant_of-self-in-Ok c =
    (c.self.invariant.0, (c.in-Ok.ensures.found _ c.self.invariant.1).step, λ x e. subst (IsStart _) (same_Some _ _ e) c.in_ok-start.ensures, c.in-Ok.ensures.kept _ c.self.invariant.1 c.self.invariant.3)

pub invariant_of-self-in-Err : goal.invariant_of-self-in-Err
invariant_of-self-in-Err c =
    (c.self.invariant.0, c.in_ok-start.ensures.step, λ x e. no-start _ x c.take.ensures.after e, c.find_next.ensures.kept _ c.self.invariant.1 c.self.invariant.3)

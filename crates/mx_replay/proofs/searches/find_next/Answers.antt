use Rattle.std.proofs.Common.{sym, ◌∙◌}
use Rattle.mx_replay.specs.Marks.{mark_of}
use Rattle.mx_replay.proofs.Found.{next-found, next-none, next-on}
use Rattle.mx_replay.proofs.searches.find_next.Goals as goal

pub returns-then-branch-clause-found : goal.returns-then-branch-clause-found
returns-then-branch-clause-found c = λ p s.
    next-found p (mark_of c.args.sought) _ _ _ _ (sym c.has_more.ensures ∙ c.loop-alloc-test.true) c.in_ok-turn_marked.ensures.turn (sym c.if-branch.true ∙ c.in_ok-turn_marked.ensures.mark) (c.loop-alloc.invariant.0 p s)

pub loop-alloc-preserved : goal.loop-alloc-preserved
loop-alloc-preserved c = (
  λ p s. next-on p (mark_of c.args.sought) _ _ _ _ (sym c.has_more.ensures ∙ c.loop-alloc-test.true) c.in_ok-turn_marked.ensures.turn (sym c.if-branch.false ∙ c.in_ok-turn_marked.ensures.mark) (c.loop-alloc.invariant.0 p s),
  λ p s a. c.keep.ensures p (next-on p (mark_of c.args.sought) _ _ _ _ (sym c.has_more.ensures ∙ c.loop-alloc-test.true) c.in_ok-turn_marked.ensures.turn (sym c.if-branch.false ∙ c.in_ok-turn_marked.ensures.mark) (c.loop-alloc.invariant.0 p s)).step (c.loop-alloc.invariant.1 p s a),
)

pub returns-clause-found : goal.returns-clause-found
returns-clause-found c = λ p s. next-none p (mark_of c.args.sought) _ _ _ (sym c.has_more.ensures ∙ c.loop-alloc-test.false) (c.loop-alloc.invariant.0 p s)

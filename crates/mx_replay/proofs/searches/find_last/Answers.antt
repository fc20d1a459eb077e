use Rattle.std.proofs.Common.{sym, ◌∙◌}
use Rattle.mx_replay.specs.Marks.{mark_of}
use Rattle.mx_replay.proofs.Found.{last-done, last-found, last-on}
use Rattle.mx_replay.proofs.searches.find_last.Goals as goal

pub loop-alloc-preserved-then-branch : goal.loop-alloc-preserved-then-branch
loop-alloc-preserved-then-branch c = λ p s l.
    last-found p (mark_of c.args.sought) _ _ _ _ _ (sym c.has_more.ensures ∙ c.loop-alloc-test.true) c.in_ok-turn_marked.ensures.turn (sym c.if-branch.true ∙ c.in_ok-turn_marked.ensures.mark) (c.loop-alloc.invariant p s l)

pub loop-alloc-preserved : goal.loop-alloc-preserved
loop-alloc-preserved c = λ p s l.
    last-on p (mark_of c.args.sought) _ _ _ _ _ (sym c.has_more.ensures ∙ c.loop-alloc-test.true) c.in_ok-turn_marked.ensures.turn (sym c.if-branch.false ∙ c.in_ok-turn_marked.ensures.mark) (c.loop-alloc.invariant p s l)

pub returns : goal.returns
returns c = λ p s l. last-done p (mark_of c.args.sought) _ _ _ _ (sym c.has_more.ensures ∙ c.loop-alloc-test.false) (c.loop-alloc.invariant p s l)

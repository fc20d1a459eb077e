use Rattle.mx_watch.proofs.Front.{front_more, front_inside, front_end, front_lacks}
use Rattle.mx_watch.proofs.Passed.{on-error}
use Rattle.mx_watch.proofs.telling.tell_all.Goals as goal

pub pass-requires-clause-inside : goal.pass-requires-clause-inside
pass-requires-clause-inside g c =
    let kept = c.loop-turn.invariant in
    front_inside _ _ _ _ _ _ _ _ _ _ _ c.requires kept.count kept.front kept.same c.loop-turn-test.true

pub loop-turn-preserved : goal.loop-turn-preserved
loop-turn-preserved g c = record {
  front = front_more _ _ _ _ _ _ _ _ c.loop-turn.invariant.front c.in_ok-at.ensures.left c.in_ok-at.ensures.kept c.in_ok-at.ensures.next;
  same = c.in_ok-at.ensures.same;
  count = c.loop-turn.invariant.count;
}

pub returns-in_err-at-clause-lacks : goal.returns-in_err-at-clause-lacks
returns-in_err-at-clause-lacks g c = on-error _ (front_lacks _ _ _ _ _ _ c.loop-turn.invariant.front c.in_err-at.ensures.lacks)

pub returns-clause-told : goal.returns-clause-told
returns-clause-told g c =
    let kept = c.loop-turn.invariant in
    front_end _ _ _ _ _ _ _ _ _ _ _ c.requires kept.count kept.front c.loop-turn-test.false

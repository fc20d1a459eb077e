use Rattle.mx_watch.proofs.Heard.{heard_more, heard_all}
use Rattle.mx_watch.proofs.watching.watch_all.Goals as goal

pub loop-t-preserved : goal.loop-t-preserved
loop-t-preserved g c = record {
  heard = heard_more c.args.traces.now c.loop-t.t-index _ _ _ _ c.loop-t-test.true c.in_ok-tell_all.ensures.told c.loop-t.invariant.heard;
  same = c.in_ok-tell_all.ensures.same;
}

pub returns-clause-heard : goal.returns-clause-heard
returns-clause-heard g c = heard_all c.args.traces.now c.loop-t.t-index _ _ c.loop-t-test.false c.loop-t.invariant.heard

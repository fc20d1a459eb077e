use Rattle.std.proofs.Common.{◌∙◌}
use Rattle.mx_watch.proofs.Passed.{nobody}
use Rattle.mx_watch.proofs.AllReported.{summed-on}
use Rattle.mx_watch.proofs.reporting.summaries.Goals as goal

pub loop-at-preserved : goal.loop-at-preserved
loop-at-preserved g c =
    summed-on _ c.args.watchers.now.items c.loop-at.at c.len-at-end.result c.loop-at.texts _ _ (c.len-at-end.ensures ∙ c.args.watchers.now.ok.0) c.loop-at-test.true
    c.in_ok-push.ensures.ok (c.in_ok-report_at.ensures nobody) c.loop-at.invariant

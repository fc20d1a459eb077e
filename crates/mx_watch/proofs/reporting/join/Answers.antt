use Rattle.std.proofs.Common.{drop}
use Rattle.mx_watch.proofs.AllReported.{place-on, places-over}
use Rattle.mx_watch.proofs.reporting.join.Goals as goal

pub loop-place-preserved : goal.loop-place-preserved
loop-place-preserved c =
    place-on c.args.count c.loop-place.place c.args.kept.now (drop c.loop-place.next c.args.left.now) (drop c.in_ok-next.next c.args.left.now) c.add_report.new.texts c.loop-place.texts _ c.loop-place-test.true
    c.in_ok-next.ensures.texts c.in_ok-next.ensures.next c.loop-place.invariant

pub returns : goal.returns
returns c = places-over c.args.count c.loop-place.place c.args.kept.now (drop c.loop-place.next c.args.left.now) c.loop-place.texts _ c.loop-place-test.false c.loop-place.invariant

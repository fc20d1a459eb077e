use Rattle.std.proofs.Common.{arith}
use Rattle.mx_watch.proofs.Heard.{heard_left}
use Rattle.mx_watch.proofs.watching.watch.Goals as goal

pub returns-clause-left : goal.returns-clause-left
returns-clause-left g c =
    heard_left _ c.args.traces.now c.in_ok-places.places.items _ _ _ _ _ c.len.result c.in_ok-places.ensures (omega arith) c.in_ok-watch_all.ensures.heard c.in_ok-watch_all.ensures.same

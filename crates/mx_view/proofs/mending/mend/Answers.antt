use Rattle.std.proofs.Common.{subst}
use Rattle.mx_view.specs.Mending.{HasReplaced}
use Rattle.mx_view.proofs.MendedLines.{stopped-same}
use Rattle.mx_view.proofs.mending.mend.Goals as goal

pub replace-requires-clause-at : goal.replace-requires-clause-at
replace-requires-clause-at c = c.loop-stop.invariant.at c.loop-stop-test.true

pub returns-in-None : goal.returns-in-None
returns-in-None c =
    let same = subst (λ m. HasReplaced c.loop-stop.s c.replace.new.s c.loop-stop.stop m) c.in-None.is c.in_ok-replace.ensures in
    stopped-same c.args.s.now c.loop-stop.s c.replace.new.s c.args.first.text c.loop-stop.stop c.loop-stop.invariant same.0 same.1 same.2

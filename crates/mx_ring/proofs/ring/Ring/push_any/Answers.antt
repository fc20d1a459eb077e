use Rattle.std.proofs.Common.{◌≡◌, false, arith, ap, ◌∙◌}
use Rattle.std.proofs.lemmas.Bool.Decides.{nat_tests}
use Rattle.mx_ring.proofs.Lists.{pushed-list}
use Rattle.mx_ring.specs.RingParts.{window_in}
use Rattle.mx_ring.specs.Stack.{windowed, as_listed, push_overfills, pushed}
use Rattle.mx_ring.proofs.ring.Ring.push_any.Goals as goal

pub returns-clause-list : goal.returns-clause-list
unfolding pushed push_overfills
returns-clause-list c =
    let w = window_in c.self.inside in
    let o : push_overfills (windowed w) c.args.x ≡ false = grind (arith, nat_tests) in
    let e : windowed c.hide.new.self ≡ pushed (windowed w) c.args.x = rw (← c.self.view_is, c.push_number-count.ensures.number) at c.hide.ensures in
    rw (← c.self.view_is) (ap as_listed e ∙ pushed-list w c.args.x c.self.invariant o)

use Rattle.std.proofs.Common.{◌≡◌, false, arith, ap, ◌∙◌}
use Rattle.std.proofs.lemmas.Bool.Decides.{nat_tests}
use Rattle.mx_ring.proofs.ComesBack.{window-kept}
use Rattle.mx_ring.proofs.Lists.{saved-list}
use Rattle.mx_ring.specs.RingParts.{window_in}
use Rattle.mx_ring.specs.Stack.{windowed, as_listed, saved, save_overfills}
use Rattle.mx_ring.proofs.ring.Ring.save.Goals as goal

pub returns-clause-list : goal.returns-clause-list
unfolding save_overfills
returns-clause-list c =
    let w = window_in c.self.inside in
    let o : save_overfills (windowed w) ≡ false = grind (arith, nat_tests) in
    let e : windowed c.hide_frame.new.self ≡ saved (windowed w) c.args.x c.args.s.now = rw (← c.self.view_is) at c.hide_frame.ensures in
    rw (← c.self.view_is) (ap as_listed e ∙ saved-list w c.args.x c.args.s.now c.self.invariant o)

pub returns-clause-comes_back : goal.returns-clause-comes_back
unfolding save_overfills
returns-clause-comes_back c =
    let w = window_in c.self.inside in
    let o : save_overfills (windowed w) ≡ false = grind (arith, nat_tests) in
    let e : windowed c.hide_frame.new.self ≡ saved (windowed w) c.args.x c.args.s.now = rw (← c.self.view_is) at c.hide_frame.ensures in
    rw (← c.self.view_is, e) (window-kept w c.args.x c.args.s.now c.self.invariant c.requires.event_bits o)

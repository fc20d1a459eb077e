use Rattle.std.proofs.Common.{◌≡◌, ◌<◌, ℕ, nat_lt, true, false, arith, ap, sym, ◌∙◌, refl}
use Rattle.std.proofs.lemmas.Bool.Decides.{nat_tests}
use Rattle.mx_ring.proofs.Lists.{pushed-list}
use Rattle.mx_registers.specs.Registers.{Registers, push_number}
use Rattle.mx_ring.specs.RingParts.{window_in}
use Rattle.mx_ring.specs.Stack.{windowed, as_listed, push_overfills, pushed, with_pushed}
use Rattle.mx_ring.proofs.ring.Ring.push.Goals as goal

-- below every G a place is its own number
number-below : (v : Registers) (x : ℕ) → x < v.first_global → push_number v x ≡ x
number-below v x h =
    let below : nat_lt x v.first_global ≡ true = grind (arith, nat_tests) in
    rw below refl

pub returns-then-has_room-clause-list : goal.returns-then-has_room-clause-list
unfolding pushed push_overfills
returns-then-has_room-clause-list c =
    let w = window_in c.self.inside in
    let small : c.args.x < w.visible.first_global = omega (arith, c.from.ensures, c.if-from-lt-FEW.true, c.self.invariant.registers.least_global) in
    let number = number-below w.visible c.args.x small in
    let room = sym c.has_room.ensures ∙ c.if-has_room.true in
    let o : push_overfills (windowed w) c.args.x ≡ false = grind (arith, nat_tests) in
    let e : windowed c.hide_few.new.self ≡ pushed (windowed w) c.args.x = rw (← c.self.view_is, c.from-then-has_room.ensures) at c.hide_few.ensures ∙ ap (with_pushed (windowed w)) (sym number) in
    rw (← c.self.view_is) (ap as_listed e ∙ pushed-list w c.args.x c.self.invariant o)

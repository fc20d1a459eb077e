use Rattle.std.proofs.Common.{◌≡◌, refl, sym, ap, ◌∙◌}
use Rattle.mx_ring.specs.Stack.{set_overfills}
use Rattle.mx_code.specs.Instructions.{x_of}
use Rattle.mx_core.specs.Kept.{state_of}
use Rattle.mx_core.specs.State.{with_local}
use Rattle.mx_core.proofs.Results.Answered.{set-ok, set-err}
use Rattle.mx_core.proofs.Results.Swaps.{swap_inside, swap_full}
use Rattle.mx_core.proofs.Results.Unchanged.{keeps}
use Rattle.mx_core.proofs.machine.Machine.swap_spilled.Goals as goal

pub returns-in-Ok-clause-answer : goal.returns-in-Ok-clause-answer
returns-in-Ok-clause-answer c = λ m.
    let s = state_of c.args.self.now in
    let ok = set-ok s (state_of c.set.new.self) c.x.result c.x_register.result c.in-Ok.ensures.made in
    let local : state_of c.set.new.self ≡ with_local s (x_of c.args.i.now) = ok.1 ∙ rw (c.x.ensures, c.x_register.ensures) refl in
    swap_inside s (state_of c.set.new.self) (state_of c.swap_local.new.self) c.args.i.now c.args.a c.swap_local.result c.requires.address c.requires.below c.requires.inside
    (sym (ap (λ j. set_overfills s.stack j) c.x.ensures) ∙ ok.0) local c.swap_local.ensures

pub returns-in-Err-clause-answer : goal.returns-in-Err-clause-answer
returns-in-Err-clause-answer c = λ m.
    let s = state_of c.args.self.now in
    let err = set-err s (state_of c.set.new.self) c.x.result c.x_register.result c.in-Err.stop (rw c.in-Err.is at c.set.ensures.made) in
    rw (swap_full s c.args.i.now c.args.a c.requires.address c.requires.below (sym (ap (λ j. set_overfills s.stack j) c.x.ensures) ∙ err.0), err.1, err.2) refl

pub returns-in-Ok-clause-err : goal.returns-in-Ok-clause-err
returns-in-Ok-clause-err c =
    let s = state_of c.args.self.now in
    let ok = set-ok s (state_of c.set.new.self) c.x.result c.x_register.result c.in-Ok.ensures.made in
    let local : state_of c.set.new.self ≡ with_local s (x_of c.args.i.now) = ok.1 ∙ rw (c.x.ensures, c.x_register.ensures) refl in
    keeps s (state_of c.swap_local.new.self) _ c.swap_local.result
    (swap_inside s (state_of c.set.new.self) (state_of c.swap_local.new.self) c.args.i.now c.args.a c.swap_local.result c.requires.address c.requires.below c.requires.inside
    (sym (ap (λ j. set_overfills s.stack j) c.x.ensures) ∙ ok.0) local c.swap_local.ensures)

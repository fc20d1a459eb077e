use Rattle.std.proofs.Common.{◌≡◌, refl, sym, ap, ◌∙◌}
use Rattle.mx_ring.specs.Stack.{set_overfills}
use Rattle.mx_code.specs.LoadsAndStores.{loaded_value}
use Rattle.mx_code.specs.Instructions.{x_of, next_of}
use Rattle.mx_core.specs.Kept.{state_of}
use Rattle.mx_core.specs.State.{State, octa, with_local}
use Rattle.mx_core.specs.Traps.{with_touch}
use Rattle.mx_core.proofs.Results.Answered.{set-ok, set-err, refused-as, after-local}
use Rattle.mx_core.proofs.Results.Loads.{load_inside}
use Rattle.mx_core.proofs.machine.Machine.load_spilled.Goals as goal

pub returns-in-Ok : goal.returns-in-Ok
returns-in-Ok c =
    let s = state_of c.args.self.now in
    let k = x_of c.args.i.now in
    let ok = set-ok s (state_of c.set.new.self) c.x.result c.x_register.result c.in-Ok.ensures.made in
    let local : state_of c.set.new.self ≡ with_local s k = ok.1 ∙ rw (c.x.ensures, c.x_register.ensures) refl in
    let there : state_of c.note_touch.new.self ≡ with_touch (with_local s k) = c.note_touch.ensures ∙ ap with_touch local in
    let value : c.extract_loaded-value.result ≡ loaded_value c.args.how (octa (with_local s k) c.args.a) c.args.a =
    c.extract_loaded-value.ensures ∙ ap (λ x. loaded_value c.args.how x c.args.a) (c.octa.ensures ∙ ap (λ (t : State). octa t c.args.a) local) in
    after-local s (state_of c.note_touch.new.self) (state_of c.settle.new.self) k _ (next_of c.args.i.now) c.settle.result _ there
    (rw (sym value, sym c.next.ensures) c.settle.ensures)
    (sym (ap (λ j. set_overfills s.stack j) c.x.ensures) ∙ ok.0)
    (load_inside c.args.how s c.args.i.now c.args.a c.requires.address c.requires.least c.requires.most)

pub returns-in-Err : goal.returns-in-Err
returns-in-Err c =
    let s = state_of c.args.self.now in
    let err = set-err s (state_of c.set.new.self) c.x.result c.x_register.result c.in-Err.stop (rw c.in-Err.is at c.set.ensures.made) in
    refused-as _ _ s (state_of c.set.new.self) _ c.in-Err.stop _ (load_inside c.args.how s c.args.i.now c.args.a c.requires.address c.requires.least c.requires.most)
    (sym (ap (λ j. set_overfills s.stack j) c.x.ensures) ∙ err.0, err.1, err.2)

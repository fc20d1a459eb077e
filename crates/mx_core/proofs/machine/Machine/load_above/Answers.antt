use Rattle.std.proofs.Common.{◌≡◌, refl, sym, ap, ◌∙◌}
use Rattle.mx_core.specs.Kept.{state_of}
use Rattle.mx_core.specs.Deeds.{onward}
use Rattle.mx_code.specs.LoadsAndStores.{loaded_value}
use Rattle.mx_code.specs.Instructions.{x_of, next_of}
use Rattle.mx_core.specs.State.{octa, with_value_in}
use Rattle.mx_core.specs.Traps.{with_touch}
use Rattle.mx_core.proofs.Results.Answered.{settle-ok, settle-err, refused-as, made-as}
use Rattle.mx_core.proofs.Results.Loads.{load_outside}
use Rattle.mx_core.proofs.machine.Machine.load_above.Goals as goal

pub returns-in-Ok : goal.returns-in-Ok
returns-in-Ok c =
    let s = state_of c.args.self.now in
    let value : c.extract_loaded.result ≡ loaded_value c.args.how (octa s c.args.a) c.args.a = c.extract_loaded.ensures ∙ ap (λ x. loaded_value c.args.how x c.args.a) c.octa.ensures in
    let ok = settle-ok s (state_of c.settle.new.self) (x_of c.args.i.now) c.extract_loaded.result c.next.result (rw c.in-Ok.is at c.settle.ensures) in
    let after : state_of c.settle.new.self ≡ onward (with_value_in s (x_of c.args.i.now) (loaded_value c.args.how (octa s c.args.a) c.args.a)) (next_of c.args.i.now) = ok.1 ∙ rw (value, c.next.ensures) refl in
    made-as _ _ s (state_of c.note_touch.new.self) _ _ (load_outside c.args.how s c.args.i.now c.args.a c.requires.address c.requires.least c.if-a.false (sym c.is_in_stack_area.ensures ∙ c.if-is_in_stack_area.false)) ok.0
    (c.note_touch.ensures ∙ ap with_touch after)

pub returns-in-Err : goal.returns-in-Err
returns-in-Err c =
    let s = state_of c.args.self.now in
    let err = settle-err s (state_of c.settle.new.self) (x_of c.args.i.now) c.extract_loaded.result c.next.result c.in-Err.stop (rw c.in-Err.is at c.settle.ensures) in
    refused-as _ _ s (state_of c.settle.new.self) _ c.in-Err.stop _ (load_outside c.args.how s c.args.i.now c.args.a c.requires.address c.requires.least c.if-a.false (sym c.is_in_stack_area.ensures ∙ c.if-is_in_stack_area.false)) err

use Rattle.std.proofs.Common.{◌≡◌, ◌<◌, ◌^◌, ap, ◌∙◌, refl, None, arith}
use Rattle.mx_core.specs.Way.Calls.{store_seen}
use Rattle.mx_core.specs.Deeds.{onward}
use Rattle.mx_code.specs.LoadsAndStores.{stored_part, stored_value, stored_event}
use Rattle.mx_code.specs.Instructions.{x_of, next_of}
use Rattle.mx_core.specs.Kept.{state_of}
use Rattle.mx_core.specs.State.{State}
use Rattle.mx_core.proofs.Results.Answered.{made-as}
use Rattle.mx_core.proofs.Results.Stores.{store_plain, stored-ok}
use Rattle.mx_core.proofs.machine.Machine.store_register_if_near.Goals as goal

pub returns-clause-made : goal.returns-clause-made
returns-clause-made c = λ told.
    let s = state_of c.args.self.now in
    let t = state_of c.store_if_near.new.self in
    let a = c.data_address-a.result in
    let low : a < 2 ^ 63 = omega (arith, c.store_if_near.ensures.low told) in
    let event : stored_event c.args.how c.x_register-x.result ≡ None = c.is_store_overflow.ensures ∙ rw c.if-is_store_overflow.false refl in
    let ok = stored-ok s t a c.part_of_store.result c.convert_stored.result (c.store_if_near.ensures.made told) in
    let after : t ≡ store_seen s a (stored_part c.args.how) (stored_value c.args.how c.x_register-x.result (x_of c.args.i.now)) =
    ok.1 ∙ rw (c.part_of_store.ensures, c.convert_stored.ensures, c.x.ensures) refl in
    made-as _ _ s (onward t (next_of c.args.i.now)) _ _ (store_plain c.args.how s c.args.i.now a c.x_register-x.result c.data_address-a.ensures c.x_register-x.ensures low event) ok.0
    (ap (λ (u : State). onward u (next_of c.args.i.now)) after)

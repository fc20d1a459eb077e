use Rattle.std.proofs.Common.{◌≡◌, ◌<◌, ◌^◌, ap, ◌∙◌, refl, subst, None, arith}
use Rattle.mx_core.specs.Way.Calls.{store_seen}
use Rattle.mx_core.specs.Deeds.{onward}
use Rattle.mx_code.specs.LoadsAndStores.{stored_part, stored_value, stored_event}
use Rattle.mx_code.specs.Instructions.{x_of, next_of}
use Rattle.mx_core.specs.Kept.{state_of}
use Rattle.mx_core.specs.Way.Noting.{StoresBelow}
use Rattle.mx_core.specs.State.{State}
use Rattle.mx_core.proofs.Results.Answered.{made-as}
use Rattle.mx_core.proofs.Results.Stores.{store_plain, stored-ok}
use Rattle.mx_core.proofs.machine.Machine.store_if_usual.Goals as goal

pub returns-then-store_if_near-clause-made : goal.returns-then-store_if_near-clause-made
returns-then-store_if_near-clause-made g c = λ _.
    let s = state_of c.args.self.now in
    let t = state_of c.store_if_near.new.self in
    let a = c.data_address-a.result in
    let low : a < 2 ^ 63 = omega (arith, c.store_if_near.ensures.low c.if-store_if_near.true) in
    let event : stored_event c.args.how c.x_register-x.result ≡ None = c.is_store_overflow.ensures ∙ rw c.if-is_store_overflow.false refl in
    let ok = stored-ok s t a c.part_of_store.result c.convert_stored.result (c.store_if_near.ensures.made c.if-store_if_near.true) in
    let after : t ≡ store_seen s a (stored_part c.args.how) (stored_value c.args.how c.x_register-x.result (x_of c.args.i.now)) =
    ok.1 ∙ rw (c.part_of_store.ensures, c.convert_stored.ensures, c.x.ensures) refl in
    made-as _ _ s (state_of c.go_to.new.self) _ _ (store_plain c.args.how s c.args.i.now a c.x_register-x.result c.data_address-a.ensures c.x_register-x.ensures low event) ok.0
    (c.go_to.ensures ∙ ap (λ n. onward t n) c.next.ensures ∙ ap (λ (u : State). onward u (next_of c.args.i.now)) after)

pub returns-then-store_if_near-clause-stores : goal.returns-then-store_if_near-clause-stores
returns-then-store_if_near-clause-stores g c = λ _.
    let s = state_of c.args.self.now in
    let t = state_of c.store_if_near.new.self in
    let a = c.data_address-a.result in
    let ok = stored-ok s t a c.part_of_store.result c.convert_stored.result (c.store_if_near.ensures.made c.if-store_if_near.true) in
    subst (StoresBelow s (state_of c.go_to.new.self)) c.data_address-a.ensures (record {
      low = c.store_if_near.ensures.low c.if-store_if_near.true;
      there = c.store_if_near.ensures.there c.if-store_if_near.true;
      part = c.part_of_store.result;
      value = c.convert_stored.result;
      next = c.next.result;
      is = c.go_to.ensures ∙ ap (λ (u : State). onward u c.next.result) ok.1;
    })

use Rattle.std.proofs.Common.{◌≡◌, ap, ◌∙◌, refl, sym, Err, None}
use Rattle.mx_core.specs.Way.Calls.{store_seen, store_settled, makes_page}
use Rattle.mx_core.specs.Deeds.{onward, outcome, deed_of}
use Rattle.mx_code.specs.LoadsAndStores.{stored_part, stored_value, stored_event}
use Rattle.mx_core.specs.Effects.{data_address, x_register}
use Rattle.mx_code.specs.Instructions.{instruction, x_of, next_of}
use Rattle.mx_core.specs.Kept.{state_of}
use Rattle.mx_core.specs.State.{State}
use Rattle.mx_code.specs.Told.{answer_in}
use Rattle.mx_code.specs.declared.operation.Operation.TheVariants as op
use Rattle.mx_core.proofs.Results.Answered.{refused-as, made-as}
use Rattle.mx_core.proofs.Results.Pages.{lacks_plain}
use Rattle.mx_core.proofs.Results.Plain.{store_as_plain}
use Rattle.mx_core.proofs.Results.Stores.{store_negative, store_outcome_is, store_page, store_plain, stored-ok, stored-err}
use Rattle.mx_core.proofs.Results.Unchanged.{lacks_as}
use Rattle.mx_core.proofs.machine.Machine.store_register.Goals as goal

pub returns-then-a-clause-answer : goal.returns-then-a-clause-answer
returns-then-a-clause-answer c = λ m.
    rw (store_negative c.args.how (state_of c.args.self.now) c.args.i.now c.data_address-a.result c.data_address-a.ensures c.if-a.true) refl

pub returns-in-Ok-clause-answer : goal.returns-in-Ok-clause-answer
returns-in-Ok-clause-answer c = λ m.
    let s = state_of c.args.self.now in
    let event : stored_event c.args.how c.x_register-x.result ≡ None = c.is_store_overflow.ensures ∙ rw c.if-is_store_overflow.false refl in
    let ok = stored-ok s (state_of c.store.new.self) c.data_address-a.result c.part_of_store.result c.convert_stored.result (c.in-Ok.ensures.answer (λ e. cc)) in
    let after : state_of c.store.new.self ≡ store_seen s c.data_address-a.result (stored_part c.args.how) (stored_value c.args.how c.x_register-x.result (x_of c.args.i.now)) =
    ok.1 ∙ rw (c.part_of_store.ensures, c.convert_stored.ensures, c.x.ensures) refl in
    made-as _ _ s (state_of c.go_to.new.self) _ _ (store_plain c.args.how s c.args.i.now c.data_address-a.result c.x_register-x.result c.data_address-a.ensures c.x_register-x.ensures c.if-a.false event) ok.0
    (c.go_to.ensures ∙ ap (λ n. onward (state_of c.store.new.self) n) c.next.ensures ∙ ap (λ (t : State). onward t (next_of c.args.i.now)) after)

pub returns-in-Err-clause-answer : goal.returns-in-Err-clause-answer
returns-in-Err-clause-answer c = λ m.
    let s = state_of c.args.self.now in
    let event : stored_event c.args.how c.x_register-x.result ≡ None = c.is_store_overflow.ensures ∙ rw c.if-is_store_overflow.false refl in
    let err = stored-err s (state_of c.store.new.self) c.data_address-a.result c.part_of_store.result c.convert_stored.result c.in-Err.stop (c.in-Err.ensures.answer m) in
    refused-as _ _ s (state_of c.store.new.self) _ c.in-Err.stop _ (store_plain c.args.how s c.args.i.now c.data_address-a.result c.x_register-x.result c.data_address-a.ensures c.x_register-x.ensures c.if-a.false event) err

pub returns-then-is_store_overflow-clause-lacks_memory : goal.returns-then-is_store_overflow-clause-lacks_memory
returns-then-is_store_overflow-clause-lacks_memory c =
    let s = state_of c.args.self.now in
    let a = c.data_address-a.result in
    let done : store_settled s (instruction c.args.i.now.at c.args.i.now.word) c.args.how a c.x_register-x.result ≡ outcome s (deed_of (op.Store c.args.how) s c.args.i.now) =
    sym (store_outcome_is c.args.how s c.args.i.now ∙ rw (c.data_address-a.ensures, c.x_register-x.ensures) (store_as_plain s c.args.i.now c.args.how (data_address s c.args.i.now) (x_register s c.args.i.now))) in
    rw c.into_result.ensures (lacks_as _ _ (answer_in c.store_apart.result) (ap (makes_page s a) done ∙ sym (store_page c.args.how s c.args.i.now a c.data_address-a.ensures)) c.store_apart.ensures.lacks_memory)

pub returns-in-Err-clause-lacks_memory : goal.returns-in-Err-clause-lacks_memory
returns-in-Err-clause-lacks_memory c =
    let s = state_of c.args.self.now in
    let a = c.data_address-a.result in
    let event : stored_event c.args.how c.x_register-x.result ≡ None = c.is_store_overflow.ensures ∙ rw c.if-is_store_overflow.false refl in
    let done = store_plain c.args.how s c.args.i.now a c.x_register-x.result c.data_address-a.ensures c.x_register-x.ensures c.if-a.false event in
    lacks_as _ _ (Err c.in-Err.stop) (ap (makes_page s a) (sym done) ∙ sym (store_page c.args.how s c.args.i.now a c.data_address-a.ensures))
    (lacks_plain s _ a (Err c.in-Err.stop) c.in-Err.ensures.lacks_memory c.in-Err.ensures.room)

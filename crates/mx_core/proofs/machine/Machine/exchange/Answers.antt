use Rattle.std.proofs.Common.{◌≡◌, false, Err, sym, ap, ◌∙◌}
use Rattle.mx_mem.specs.declared.part.Part.TheVariants.{Octa}
use Rattle.mx_ring.specs.Stack.{set_overfills}
use Rattle.mx_core.specs.Way.Calls.{left, exchanged}
use Rattle.mx_code.specs.Instructions.{x_of}
use Rattle.mx_core.specs.Kept.{state_of}
use Rattle.mx_core.proofs.Results.Pages.{lacks_exchange}
use Rattle.mx_core.proofs.Results.Stores.{stored-ok}
use Rattle.mx_core.proofs.Results.Swaps.{exchange_settles}
use Rattle.mx_core.proofs.Results.Unchanged.{keeps, lasts}
use Rattle.mx_core.proofs.machine.Machine.exchange.Goals as goal

made : (c : goal.After-settle) → (c.settle.result, state_of c.settle.new.self) ≡ left (state_of c.args.self.now) (exchanged (state_of c.args.self.now) c.args.i.now c.args.a)
made c =
    let s = state_of c.args.self.now in
    let ok = stored-ok s (state_of c.store.new.self) c.args.a Octa c.x_register-datum.result (c.in-Ok.ensures.answer (λ e. cc)) in
    let fits : set_overfills s.stack (x_of c.args.i.now) ≡ false = ap (λ j. set_overfills s.stack j) (sym c.x.ensures) ∙ sym c.overfills.ensures ∙ c.if-overfills.false in
    exchange_settles s (state_of c.store.new.self) (state_of c.settle.new.self) c.args.i.now c.args.a c.x_register-datum.result c.next.result c.settle.result
    c.requires.outside fits ok.0 c.x_register-datum.ensures c.next.ensures ok.1 c.settle.ensures

pub returns-in-Ok-clause-answer : goal.returns-in-Ok-clause-answer
returns-in-Ok-clause-answer c = λ m. made c

pub returns-in-Ok-clause-err : goal.returns-in-Ok-clause-err
returns-in-Ok-clause-err c = keeps _ _ _ _ (made c)

pub returns-in-Ok-clause-lacks_memory : goal.returns-in-Ok-clause-lacks_memory
returns-in-Ok-clause-lacks_memory c = lasts _ _ _ _ _ (made c)

pub returns-in-Err-clause-lacks_memory : goal.returns-in-Err-clause-lacks_memory
returns-in-Err-clause-lacks_memory c =
    let s = state_of c.args.self.now in
    let fits : set_overfills s.stack (x_of c.args.i.now) ≡ false = ap (λ j. set_overfills s.stack j) (sym c.x.ensures) ∙ sym c.overfills.ensures ∙ c.if-overfills.false in
    lacks_exchange s c.args.i.now c.args.a (Err c.in-Err.stop) fits c.in-Err.ensures.lacks_memory c.in-Err.ensures.room

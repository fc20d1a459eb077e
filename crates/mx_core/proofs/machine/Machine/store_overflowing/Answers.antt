use Rattle.std.proofs.Common.{sym, ap, ◌∙◌}
use Rattle.mx_alu.specs.declared.answer.Event.TheVariants.{Overflow}
use Rattle.mx_alu.specs.Trips.{decided}
use Rattle.mx_core.specs.Way.Calls.{left, makes_page}
use Rattle.mx_core.specs.Kept.{state_of}
use Rattle.mx_core.proofs.Results.Stores.{store_overflow}
use Rattle.mx_core.proofs.Results.Unchanged.{lacks_as}
use Rattle.mx_core.proofs.machine.Machine.store_overflowing.Goals as goal

pub store_noted-requires-clause-bits : goal.store_noted-requires-clause-bits
store_noted-requires-clause-bits c = c.noted_events_stay_in_18_bits.ensures c.ra.result c.in-Noted.status Overflow c.ra.ensures.bits (sym c.decide.ensures ∙ c.in-Noted.is)

pub returns-in-Noted-clause-answer : goal.returns-in-Noted-clause-answer
returns-in-Noted-clause-answer c = λ m.
    let s = state_of c.args.self.now in
    c.store_noted.ensures.answer m
    ∙ ap (left s) (sym (store_overflow c.args.how s c.args.i.now c.args.a c.args.x _ c.requires.event (ap (λ r. decided r Overflow) (sym c.ra.ensures.value) ∙ sym c.decide.ensures ∙ c.in-Noted.is)))

pub returns-in-Taken-clause-answer : goal.returns-in-Taken-clause-answer
returns-in-Taken-clause-answer c = λ m.
    let s = state_of c.args.self.now in
    c.store_tripped.ensures.answer m
    ∙ ap (left s) (sym (store_overflow c.args.how s c.args.i.now c.args.a c.args.x _ c.requires.event (ap (λ r. decided r Overflow) (sym c.ra.ensures.value) ∙ sym c.decide.ensures ∙ c.in-Taken.is)))

pub returns-in-Noted-clause-lacks_memory : goal.returns-in-Noted-clause-lacks_memory
returns-in-Noted-clause-lacks_memory c =
    let s = state_of c.args.self.now in
    lacks_as _ _ c.store_noted.result (ap (makes_page s c.args.a) (sym (store_overflow c.args.how s c.args.i.now c.args.a c.args.x _ c.requires.event (ap (λ r. decided r Overflow) (sym c.ra.ensures.value) ∙ sym c.decide.ensures ∙ c.in-Noted.is)))) c.store_noted.ensures.lacks_memory

pub returns-in-Taken-clause-lacks_memory : goal.returns-in-Taken-clause-lacks_memory
returns-in-Taken-clause-lacks_memory c =
    let s = state_of c.args.self.now in
    lacks_as _ _ c.store_tripped.result (ap (makes_page s c.args.a) (sym (store_overflow c.args.how s c.args.i.now c.args.a c.args.x _ c.requires.event (ap (λ r. decided r Overflow) (sym c.ra.ensures.value) ∙ sym c.decide.ensures ∙ c.in-Taken.is)))) c.store_tripped.ensures.lacks_memory

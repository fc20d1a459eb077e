use Rattle.std.proofs.Common.{◌≡◌, ◌==◌, true, false, refl, sym, ap, ◌∙◌}
use Rattle.mx_code.specs.SpecialRegisters.{rP}
use Rattle.mx_core.specs.Way.Calls.{left, left_alone}
use Rattle.mx_core.specs.Kept.{state_of}
use Rattle.mx_core.specs.State.{octa, special_register}
use Rattle.mx_core.proofs.Results.Swaps.{swap_needs, swap_outside, found-same, found-other}
use Rattle.mx_core.proofs.Results.Unchanged.{lacks_as}
use Rattle.mx_core.proofs.machine.Machine.swap.Goals as goal

pub returns-then-found-special-clause-answer : goal.returns-then-found-special-clause-answer
returns-then-found-special-clause-answer c = λ m.
    let s = state_of c.args.self.now in
    let a = c.data_address-a.result in
    let same : (octa s a == special_register s rP) ≡ true = found-same _ _ c.octa-found.result c.special.result c.octa-found.ensures c.special.ensures c.if-found-special.true in
    c.exchange.ensures.answer m
    ∙ ap (left s) (sym (swap_outside s c.args.i.now a c.data_address-a.ensures c.if-a.false (sym c.is_in_stack_area.ensures ∙ c.if-is_in_stack_area.false) ∙ rw same refl))

pub returns-else-found-special-clause-answer : goal.returns-else-found-special-clause-answer
returns-else-found-special-clause-answer c = λ m.
    let s = state_of c.args.self.now in
    let a = c.data_address-a.result in
    let other : (octa s a == special_register s rP) ≡ false = found-other _ _ c.octa-found.result c.special.result c.octa-found.ensures c.special.ensures c.if-found-special.false in
    c.leave.ensures
    ∙ ap (λ x. left s (left_alone s c.args.i.now a x)) c.octa-found.ensures
    ∙ ap (left s) (sym (swap_outside s c.args.i.now a c.data_address-a.ensures c.if-a.false (sym c.is_in_stack_area.ensures ∙ c.if-is_in_stack_area.false) ∙ rw other refl))

pub returns-then-found-special-clause-lacks_memory : goal.returns-then-found-special-clause-lacks_memory
returns-then-found-special-clause-lacks_memory c =
    let s = state_of c.args.self.now in
    let a = c.data_address-a.result in
    let same : (octa s a == special_register s rP) ≡ true = found-same _ _ c.octa-found.result c.special.result c.octa-found.ensures c.special.ensures c.if-found-special.true in
    lacks_as _ _ c.exchange.result (swap_needs s c.args.i.now a c.data_address-a.ensures c.if-a.false (sym c.is_in_stack_area.ensures ∙ c.if-is_in_stack_area.false) same) c.exchange.ensures.lacks_memory

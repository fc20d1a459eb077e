use Rattle.std.proofs.Common.{◌≡◌, ◌≢◌, ◌+◌, ◌*◌, ◌/◌, ◌%◌, ◌^◌, ℕ, Ok, refl, sym, ap, ◌∙◌}
use Rattle.mx_code.specs.Instructions.{instruction, near_address, next_of, operation_in, x_of, yz_of}
use Rattle.mx_code.specs.SpecialRegisters.{rJ}
use Rattle.mx_code.specs.declared.instruction.Instruction.{Instruction}
use Rattle.mx_code.specs.declared.operation.Operation.TheVariants as op
use Rattle.mx_core.specs.Deeds.{onward, outcome, deed_of}
use Rattle.mx_core.specs.Effects.{data_address, z_operand}
use Rattle.mx_core.specs.Kept.{Kept, state_of}
use Rattle.mx_core.specs.State.{State, special_register, with_special}
use Rattle.mx_core.specs.Way.Calls.{left, registers_popped, registers_pushed, set_outcome, settled}
use Rattle.mx_core.specs.Way.KeptPage.{address_in, address_of, number_of}
use Rattle.mx_core.proofs.KeptSteps.{as-deed, onward-aligned, reads-none, settled-then}
use Rattle.mx_core.proofs.Results.Outcomes.{go_outcome}
use Rattle.mx_core.proofs.machine.Machine.go_at.Goals as goal

pub returns-in-Ok-clause-made : goal.returns-in-Ok-clause-made
returns-in-Ok-clause-made c = λ _.
    let k : Kept = c.args.self.now in
    let s : State = state_of k in
    let start : ℕ = k.memory.code_start in
    let i : Instruction = c.with_code-i.result in
    let j : Instruction = instruction (address_in k c.args.index) c.args.word in
    let is : i ≡ j = c.with_code-i.ensures ∙ ap (λ a. instruction a c.args.word) c.locate.ensures in
    let t : State = state_of c.set.new.self in
    let u : State = onward t (address_of start (number_of c.lead_to.result)) in
    let a : ℕ = c.data_address-a.result in
    let operation : operation_in i ≡ op.Go = sym c.operation.ensures ∙ c.in-Go.is in
    let at : address_of start (number_of c.lead_to.result) ≡ a / 4 * 4 = ap (λ m. address_of m (number_of c.lead_to.result)) (sym c.in-Ok.ensures.code.0.0) ∙ c.lead_to.ensures.leads in
    let leads : u ≡ onward t a = ap (onward t) at ∙ onward-aligned t a in
    let set : (Ok tt, t) ≡ left s (set_outcome s (x_of i) (next_of i)) = c.in-Ok.ensures.made ∙ rw (c.x.ensures, c.next.ensures) refl in
    settled-then s t u (x_of i) (next_of i) a set leads
    ∙ ap (left s) (ap (settled s (x_of i) (next_of i)) c.data_address-a.ensures ∙ sym (go_outcome s i) ∙ as-deed op.Go s i j is operation (λ x. cc))

pub returns-in-Ok-clause-plain : goal.returns-in-Ok-clause-plain
returns-in-Ok-clause-plain c = λ _.
    reads-none op.Go c.with_code-i.result (instruction (address_in c.args.self.now c.args.index) c.args.word)
    (c.with_code-i.ensures ∙ ap (λ a. instruction a c.args.word) c.locate.ensures) (sym c.operation.ensures ∙ c.in-Go.is) (λ x. cc) (λ x. cc)

use Rattle.std.proofs.Common.{◌≡◌, ◌≢◌, ◌+◌, ◌*◌, ◌/◌, ◌%◌, ◌^◌, ℕ, Ok, refl, sym, ap, ◌∙◌}
use Rattle.mx_code.specs.Instructions.{instruction, near_address, next_of, operation_in, x_of, yz_of}
use Rattle.mx_code.specs.SpecialRegisters.{rJ}
use Rattle.mx_code.specs.declared.instruction.Instruction.{Instruction}
use Rattle.mx_code.specs.declared.operation.Operation.TheVariants as op
use Rattle.mx_core.specs.Deeds.{onward, outcome, deed_of}
use Rattle.mx_core.specs.Effects.{data_address, z_operand}
use Rattle.mx_core.specs.Kept.{Kept, state_of}
use Rattle.mx_core.specs.State.{State, special_register, with_special}
use Rattle.mx_core.specs.Way.Calls.{left, registers_popped, registers_pushed, set_outcome, settled}
use Rattle.mx_core.specs.Way.KeptPage.{address_in, address_of, number_of}
use Rattle.mx_core.proofs.KeptSteps.{as-deed, onward-aligned, popped-then, reads-none}
use Rattle.mx_core.proofs.Results.Others.{pop_outcome_is}
use Rattle.mx_core.proofs.machine.Machine.pop_at.Goals as goal

pub returns-in-Ok-clause-made : goal.returns-in-Ok-clause-made
returns-in-Ok-clause-made c = λ _.
    let k : Kept = c.args.self.now in
    let s : State = state_of k in
    let start : ℕ = k.memory.code_start in
    let i : Instruction = c.with_code-i.result in
    let j : Instruction = instruction (address_in k c.args.index) c.args.word in
    let is : i ≡ j = c.with_code-i.ensures ∙ ap (λ a. instruction a c.args.word) c.locate.ensures in
    let t : State = state_of c.pop_registers.new.self in
    let u : State = onward t (address_of start (number_of c.lead_to.result)) in
    let a : ℕ = (special_register s rJ + 4 * yz_of i) % 2 ^ 64 in
    let operation : operation_in i ≡ op.Pop = sym c.operation.ensures ∙ c.in-Pop.is in
    let b : ℕ = (c.special.result + 4 * c.yz.result) % 2 ^ 64 in
    let at : address_of start (number_of c.lead_to.result) ≡ b / 4 * 4 = ap (λ m. address_of m (number_of c.lead_to.result)) (sym c.in-Ok.ensures.code.0.0) ∙ c.lead_to.ensures.leads in
    let same : onward t b ≡ onward t a = rw (c.special.ensures, c.yz.ensures.value) refl in
    let leads : u ≡ onward t a = ap (onward t) at ∙ onward-aligned t b ∙ same in
    let popped : (Ok tt, t) ≡ left s (registers_popped s (x_of i)) = c.in-Ok.ensures.made ∙ ap (λ x. left s (registers_popped s x)) c.x.ensures in
    popped-then s t u i popped leads ∙ ap (left s) (sym (pop_outcome_is s i) ∙ as-deed op.Pop s i j is operation (λ x. cc))

pub returns-in-Ok-clause-plain : goal.returns-in-Ok-clause-plain
returns-in-Ok-clause-plain c = λ _.
    reads-none op.Pop c.with_code-i.result (instruction (address_in c.args.self.now c.args.index) c.args.word)
    (c.with_code-i.ensures ∙ ap (λ a. instruction a c.args.word) c.locate.ensures) (sym c.operation.ensures ∙ c.in-Pop.is) (λ x. cc) (λ x. cc)

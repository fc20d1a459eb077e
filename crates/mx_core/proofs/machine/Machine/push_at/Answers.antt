use Rattle.std.proofs.Common.{◌≡◌, ◌≢◌, ◌+◌, ◌*◌, ◌%◌, ◌^◌, ℕ, Ok, refl, sym, ap, ◌∙◌}
use Rattle.mx_code.specs.Instructions.{instruction, near_address, next_of, operation_in, x_of, yz_of}
use Rattle.mx_code.specs.SpecialRegisters.{rJ}
use Rattle.mx_code.specs.declared.instruction.Instruction.{Instruction}
use Rattle.mx_code.specs.declared.operation.Operation.TheVariants as op
use Rattle.mx_core.specs.Deeds.{onward, outcome, deed_of}
use Rattle.mx_core.specs.Effects.{data_address, z_operand}
use Rattle.mx_core.specs.Kept.{Kept, state_of}
use Rattle.mx_core.specs.State.{State, special_register, with_special}
use Rattle.mx_core.specs.Way.Calls.{left, registers_popped, registers_pushed, set_outcome, settled}
use Rattle.mx_core.specs.Way.KeptPage.{address_in, address_of, number_of}
use Rattle.mx_core.proofs.KeptSteps.{address-plain, as-deed, pushed-then, reads-none}
use Rattle.mx_core.proofs.Results.Others.{push_jump_outcome}
use Rattle.mx_core.proofs.machine.Machine.push_at.Goals as goal

pub returns-in-Ok-clause-made : goal.returns-in-Ok-clause-made
returns-in-Ok-clause-made c = λ _.
    let k : Kept = c.args.self.now in
    let s : State = state_of k in
    let start : ℕ = k.memory.code_start in
    let i : Instruction = c.with_code-i.result in
    let j : Instruction = instruction (address_in k c.args.index) c.args.word in
    let is : i ≡ j = c.with_code-i.ensures ∙ ap (λ a. instruction a c.args.word) c.locate.ensures in
    let t : State = state_of c.push.new.self in
    let v : State = state_of c.put.new.self in
    let u : State = onward v (address_of start (number_of c.lead_by.result)) in
    let d : ℕ = c.measure_near.result in
    let operation : operation_in i ≡ op.PushJump = sym c.operation.ensures ∙ c.in-PushJump.is in
    let far : address_of start (number_of c.lead_by.result) ≡ near_address i =
    c.lead_by.ensures.leads start ∙ ap (λ b. (b + 4 * d) % 2 ^ 64) (address-plain k c.args.index c.requires.here ∙ sym (ap (λ (m : Instruction). m.at) is)) ∙ c.measure_near.ensures in
    let leads : u ≡ onward v (near_address i) = ap (onward v) far in
    let pushed : (Ok tt, t) ≡ left s (registers_pushed s (x_of i)) = c.in-Ok.ensures.made ∙ ap (λ x. left s (registers_pushed s x)) c.x.ensures in
    let link : v ≡ with_special t rJ (next_of i) = c.put.ensures.state ∙ ap (with_special t rJ) c.next.ensures in
    pushed-then s t v u i (near_address i) pushed link leads ∙ ap (left s) (sym (push_jump_outcome s i) ∙ as-deed op.PushJump s i j is operation (λ x. cc))

pub returns-in-Ok-clause-plain : goal.returns-in-Ok-clause-plain
returns-in-Ok-clause-plain c = λ _.
    reads-none op.PushJump c.with_code-i.result (instruction (address_in c.args.self.now c.args.index) c.args.word)
    (c.with_code-i.ensures ∙ ap (λ a. instruction a c.args.word) c.locate.ensures) (sym c.operation.ensures ∙ c.in-PushJump.is) (λ x. cc) (λ x. cc)

use Rattle.std.proofs.Common.{◌≡◌, ◌≢◌, ◌+◌, ◌*◌, ◌%◌, ◌^◌, ℕ, Ok, refl, sym, ap, ◌∙◌}
use Rattle.mx_code.specs.Instructions.{instruction, near_address, next_of, operation_in, x_of, yz_of}
use Rattle.mx_code.specs.SpecialRegisters.{rJ}
use Rattle.mx_code.specs.declared.instruction.Instruction.{Instruction}
use Rattle.mx_code.specs.declared.operation.Operation.TheVariants as op
use Rattle.mx_core.specs.Deeds.{onward, outcome, deed_of}
use Rattle.mx_core.specs.Effects.{data_address, z_operand}
use Rattle.mx_core.specs.Kept.{Kept, state_of}
use Rattle.mx_core.specs.State.{State, special_register, with_special}
use Rattle.mx_core.specs.Way.Calls.{left, registers_popped, registers_pushed, set_outcome, settled}
use Rattle.mx_core.specs.Way.KeptPage.{address_in, address_of, number_of}
use Rattle.mx_code.specs.Instructions.{y_of}
use Rattle.mx_core.proofs.KeptSteps.{address-plain, as-deed, leads-as, reads-none}
use Rattle.mx_core.proofs.Results.Puts.{put_link}
use Rattle.mx_core.proofs.machine.Machine.put_at.Goals as goal

pub returns-then-y-eq0-clause-made : goal.returns-then-y-eq0-clause-made
returns-then-y-eq0-clause-made c = λ _.
    let k : Kept = c.args.self.now in
    let s : State = state_of k in
    let start : ℕ = k.memory.code_start in
    let i : Instruction = c.with_code-i.result in
    let j : Instruction = instruction (address_in k c.args.index) c.args.word in
    let is : i ≡ j = c.with_code-i.ensures ∙ ap (λ a. instruction a c.args.word) c.locate.ensures in
    let t : State = state_of c.put.new.self in
    let u : State = onward t (address_of start (number_of c.lead_on.result)) in
    let operation : operation_in i ≡ op.Put = sym c.operation.ensures ∙ c.in-Put.is in
    let next : address_of start (number_of c.lead_on.result) ≡ next_of i =
    c.lead_on.ensures.leads start ∙ ap (λ b. (b + 4) % 2 ^ 64) (address-plain k c.args.index c.requires.here ∙ sym (ap (λ (m : Instruction). m.at) is)) in
    let link : t ≡ with_special s rJ (z_operand s i) = c.put.ensures.state ∙ ap (with_special s rJ) c.z_operand.ensures in
    let leads : u ≡ onward (with_special s rJ (z_operand s i)) (next_of i) = ap (onward t) next ∙ ap (λ (w : State). onward w (next_of i)) link in
    let x : x_of i ≡ rJ = sym c.x.ensures ∙ c.if-x-eq-RJ.true in
    let y : y_of i ≡ 0 = sym c.y.ensures ∙ c.if-y-eq0.true in
    leads-as s u _ (outcome s (deed_of op.Put s i)) (put_link s i x y) leads ∙ ap (left s) (as-deed op.Put s i j is operation (λ x. cc))

pub returns-then-y-eq0-clause-plain : goal.returns-then-y-eq0-clause-plain
returns-then-y-eq0-clause-plain c = λ _.
    reads-none op.Put c.with_code-i.result (instruction (address_in c.args.self.now c.args.index) c.args.word)
    (c.with_code-i.ensures ∙ ap (λ a. instruction a c.args.word) c.locate.ensures) (sym c.operation.ensures ∙ c.in-Put.is) (λ x. cc) (λ x. cc)

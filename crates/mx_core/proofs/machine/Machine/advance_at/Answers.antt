use Rattle.std.proofs.Common.{◌≡◌, ◌≢◌, ◌<◌, ◌+◌, ◌*◌, ◌%◌, ◌^◌, ℕ, Ok, refl, sym, ap, ◌∙◌}
use Rattle.mx_code.specs.Instructions.{code_of, instruction, next_of, x_of}
use Rattle.mx_code.specs.declared.instruction.Instruction.{Instruction}
use Rattle.mx_core.specs.Deeds.{deed_at, outcome}
use Rattle.mx_core.specs.Kept.{Kept, state_of}
use Rattle.mx_core.specs.State.{State}
use Rattle.mx_core.specs.Way.Calls.{left, settled}
use Rattle.mx_core.specs.Way.KeptPage.{address_in, number_of}
use Rattle.mx_core.proofs.KeptSteps.{before-end, gives-some, goes-some, leads-by, leads-on, went-at}
use Rattle.mx_core.proofs.machine.Machine.advance_at.Goals as goal

pub settle_at-requires-clause-before : goal.settle_at-requires-clause-before
settle_at-requires-clause-before c =
    let k : Kept = c.args.self.now in
    let i : Instruction = instruction (address_in k c.args.index) c.read_at-word.result in
    before-end c.args.index c.read_at-word.result (code_of i) c.requires.here.1 c.read_at-word.ensures.end (gives-some (state_of k) i (x_of i) c.in-Gives.x (next_of i) c.in-Gives.ensures.1) refl

pub returns-in-Gives-clause-made : goal.returns-in-Gives-clause-made
returns-in-Gives-clause-made c = λ ne made.
    let k : Kept = c.args.self.now in
    let s : State = state_of k in
    let word : ℕ = c.read_at-word.result in
    let i : Instruction = instruction (address_in k c.args.index) word in
    let x-is : c.x.result ≡ x_of i = c.x.ensures ∙ ap x_of c.new.ensures in
    let some : code_of i ≢ 0 = gives-some s i (x_of i) c.in-Gives.x (next_of i) c.in-Gives.ensures.1 in
    let l : c.args.index < 1024 = before-end c.args.index word (code_of i) c.requires.here.1 c.read_at-word.ensures.end some refl in
    went-at k c.settle_at.new.self c.args.index word made c.settle_at.result c.requires.here l c.read_at-word.ensures.value c.in-Gives.ensures.0
    (c.settle_at.ensures.made ne ∙ ap (λ m. left s (settled s m c.in-Gives.x (next_of i))) x-is ∙ ap (left s) (sym c.in-Gives.ensures.1))

pub returns-in-GoesBy-clause-made : goal.returns-in-GoesBy-clause-made
returns-in-GoesBy-clause-made c = λ ne made.
    let k : Kept = c.args.self.now in
    let s : State = state_of k in
    let word : ℕ = c.read_at-word.result in
    let i : Instruction = instruction (address_in k c.args.index) word in
    let some : code_of i ≢ 0 = goes-some s _ i c.in-GoesBy.ensures.1 in
    let l : c.args.index < 1024 = before-end c.args.index word (code_of i) c.requires.here.1 c.read_at-word.ensures.end some refl in
    went-at k k c.args.index word made c.lead_by.result c.requires.here l c.read_at-word.ensures.value c.in-GoesBy.ensures.0
    (leads-by k s c.args.index (number_of c.lead_by.result) c.in-GoesBy.d ((i.at + 4 * c.in-GoesBy.d) % 2 ^ 64) i (outcome s (deed_at s i)) c.requires.here refl refl
    (c.lead_by.ensures.leads k.memory.code_start) (ap (left s) (sym c.in-GoesBy.ensures.1)))

pub lead_on-requires : goal.lead_on-requires
lead_on-requires c =
    let k : Kept = c.args.self.now in
    let i : Instruction = instruction (address_in k c.args.index) c.read_at-word.result in
    before-end c.args.index c.read_at-word.result (code_of i) c.requires.here.1 c.read_at-word.ensures.end (goes-some (state_of k) _ i c.in-GoesOn.ensures.1) refl

pub returns-in-GoesOn-clause-made : goal.returns-in-GoesOn-clause-made
returns-in-GoesOn-clause-made c = λ ne made.
    let k : Kept = c.args.self.now in
    let s : State = state_of k in
    let word : ℕ = c.read_at-word.result in
    let i : Instruction = instruction (address_in k c.args.index) word in
    let some : code_of i ≢ 0 = goes-some s _ i c.in-GoesOn.ensures.1 in
    let l : c.args.index < 1024 = before-end c.args.index word (code_of i) c.requires.here.1 c.read_at-word.ensures.end some refl in
    went-at k k c.args.index word made c.lead_on.result c.requires.here l c.read_at-word.ensures.value c.in-GoesOn.ensures.0
    (leads-on k s c.args.index (number_of c.lead_on.result) i (outcome s (deed_at s i)) c.requires.here refl
    (c.lead_on.ensures.leads k.memory.code_start) (ap (left s) (sym c.in-GoesOn.ensures.1)))

pub returns-in-Apart-clause-made : goal.returns-in-Apart-clause-made
returns-in-Apart-clause-made c = λ ne made.
    let k : Kept = c.args.self.now in
    let word : ℕ = c.read_at-word.result in
    let l : c.args.index < 1024 = before-end c.args.index word c.in-Apart.code c.requires.here.1 c.read_at-word.ensures.end c.in-Apart.code-test.1 c.in-Apart.ensures in
    went-at k c.perform_apart.new.self c.args.index word made c.perform_apart.result c.requires.here l c.read_at-word.ensures.value (c.perform_apart.ensures.plain ne) (c.perform_apart.ensures.made ne)

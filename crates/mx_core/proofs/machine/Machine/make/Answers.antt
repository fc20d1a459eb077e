use Rattle.std.proofs.Common.{◌≡◌, ◌≢◌, sym, ap, ◌∙◌}
use Rattle.mx_core.specs.Way.Calls.{left, with_touch_where}
use Rattle.mx_core.specs.Deeds.{deed_at, outcome}
use Rattle.mx_code.specs.Instructions.{operation_in}
use Rattle.mx_code.specs.declared.instruction.Instruction.{Instruction}
use Rattle.mx_core.specs.Kept.{state_of}
use Rattle.mx_word.specs.Segments.{is_in_stack_segment}
use Rattle.mx_core.specs.State.{State}
use Rattle.mx_core.specs.Step.{fetched}
use Rattle.mx_core.specs.Way.Stepping.{advanced}
use Rattle.mx_code.specs.declared.operation.Operation.TheVariants as op
use Rattle.mx_core.specs.declared.step.Advance.{Advance}
use Rattle.mx_core.specs.declared.step.Advance.TheVariants as advance
use Rattle.mx_core.proofs.Steps.{step_went, step_stopped}
use Rattle.mx_core.proofs.machine.Machine.make.Goals as goal

pub returns-in-Ok-clause-answer : goal.returns-in-Ok-clause-answer
returns-in-Ok-clause-answer c = λ m.
    let s = state_of c.args.self.now in
    let t = state_of c.carry_out_fetched.new.self in
    let n : operation_in (fetched s) ≢ op.Trap = λ x. c.requires.no_trap (ap operation_in c.requires.fetched ∙ x) in
    let e = c.in-Ok.ensures.answer (λ e. cc) ∙ ap (λ (j : Instruction). left s (outcome s (deed_at s j))) c.requires.fetched in
    let looks : state_of c.note_where.new.self ≡ with_touch_where t (is_in_stack_segment s.pc) =
    c.note_where.ensures ∙ ap (with_touch_where t) (c.is_in_stack_segment.ensures ∙ ap (λ (j : Instruction). is_in_stack_segment j.at) c.requires.fetched) in
    ap (λ (u : State). (advance.Went, u)) looks ∙ ap (advanced s) (sym (step_went s t c.requires.range n e))

pub returns-in-Err-Stopped-clause-answer : goal.returns-in-Err-Stopped-clause-answer
returns-in-Err-Stopped-clause-answer c = λ m.
    let s = state_of c.args.self.now in
    let t = state_of c.carry_out_fetched.new.self in
    let n : operation_in (fetched s) ≢ op.Trap = λ x. c.requires.no_trap (ap operation_in c.requires.fetched ∙ x) in
    let told = rw c.in-Err-Stopped.field-0-is at c.in-Err-Stopped.ensures.answer in
    let e = told (λ e. cc) ∙ ap (λ (j : Instruction). left s (outcome s (deed_at s j))) c.requires.fetched in
    let err = step_stopped s t c.in-Err-Stopped.reason c.requires.range n e in
    ap (λ (a : Advance). (a, t)) c.stop_for.ensures ∙ ap (λ (u : State). (advance.Stopped c.in-Err-Stopped.reason, u)) err.1 ∙ ap (advanced s) (sym err.0)

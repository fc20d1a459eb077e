use Rattle.std.proofs.Common.{◌≡◌, sym, ap, ◌∙◌}
use Rattle.mx_core.specs.Kept.{state_of}
use Rattle.mx_core.specs.State.{State}
use Rattle.mx_core.specs.Step.{step}
use Rattle.mx_core.specs.Way.Stepping.{step_answer}
use Rattle.mx_core.specs.declared.step.Step.TheVariants as answer
use Rattle.mx_code.specs.declared.trace.Trace.{Trace}
use Rattle.mx_core.proofs.Steps.{went_as, stopped_as, trace_told}
use Rattle.mx_core.proofs.machine.Machine.follow.Goals as goal

pub returns-in-Ok-clause-answer : goal.returns-in-Ok-clause-answer
returns-in-Ok-clause-answer c = λ m.
    let s = state_of c.args.self.now in
    let t = state_of c.carry_out_fetched.new.self in
    let u = state_of c.note_where.new.self in
    let w = went_as s t u c.args.i.now c.is_in_stack_segment.result c.requires.fetched c.requires.range c.requires.no_trap (c.in-Ok.ensures.answer (λ e. cc)) c.is_in_stack_segment.ensures c.note_where.ensures in
    let trace = trace_told s t u c.args.i.now c.sight_at-sight.result c.is_in_stack_segment.result c.touch_written.result c.pc.result c.requires.fetched (c.in-Ok.ensures.answer (λ e. cc)) c.is_in_stack_segment.ensures c.note_where.ensures
    c.sight_at-sight.ensures c.touch_written.ensures c.pc.ensures.value in
    ap (λ (t : Trace). (answer.Went t, u)) trace ∙ ap (step_answer s) (sym w)

pub returns-in-Err-Stopped-clause-answer : goal.returns-in-Err-Stopped-clause-answer
returns-in-Err-Stopped-clause-answer c = λ m.
    let s = state_of c.args.self.now in
    let told = rw c.in-Err-Stopped.field-0-is at c.in-Err-Stopped.ensures.answer in
    let err = stopped_as s (state_of c.carry_out_fetched.new.self) c.args.i.now c.in-Err-Stopped.reason c.requires.fetched c.requires.range c.requires.no_trap (told (λ e. cc)) in
    let whole : (answer.Stopped c.in-Err-Stopped.reason, state_of c.carry_out_fetched.new.self) ≡ step_answer s (step s) = ap (λ (u : State). (answer.Stopped c.in-Err-Stopped.reason, u)) err.1 ∙ ap (step_answer s) (sym err.0) in
    rw c.in-Err-Stopped.reason-is whole

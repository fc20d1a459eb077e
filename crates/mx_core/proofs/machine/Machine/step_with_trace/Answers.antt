use Rattle.std.proofs.Common.{◌≡◌, ◌≤◌, ◌<◌, ◌^◌, sym, ap, ◌∙◌, arith}
use Rattle.mx_alu.specs.declared.call.TrapCall.{TrapCall}
use Rattle.mx_code.specs.Instructions.{operation_in}
use Rattle.mx_core.specs.Kept.{state_of}
use Rattle.mx_core.specs.Step.{fetched}
use Rattle.mx_core.specs.Way.Stepping.{step_answer}
use Rattle.mx_code.specs.declared.operation.Operation.TheVariants as op
use Rattle.mx_core.specs.declared.step.Step.TheVariants as answer
use Rattle.mx_core.proofs.Steps.{step_negative, step_traps}
use Rattle.mx_core.proofs.machine.Machine.step_with_trace.Goals as goal

pub returns-then-at-clause-answer : goal.returns-then-at-clause-answer
returns-then-at-clause-answer c = λ m.
    let s = state_of c.args.self.now in
    let l : 2 ^ 63 ≤ s.pc = omega (arith, c.if-at.true, c.pc-at.ensures.value) in
    ap (step_answer s) (sym (step_negative s l))

pub returns-in-Trap-clause-answer : goal.returns-in-Trap-clause-answer
returns-in-Trap-clause-answer c = λ m.
    let s = state_of c.args.self.now in
    let l : s.pc < 2 ^ 63 = omega (arith, c.if-at.false, c.pc-at.ensures.value) in
    let traps : operation_in (fetched s) ≡ op.Trap = ap operation_in (sym c.fetch-i.ensures) ∙ sym c.operation.ensures ∙ c.in-Trap.is in
    ap (λ (call : TrapCall). (answer.Trap call, s)) c.trap_call.ensures ∙ ap (step_answer s) (sym (step_traps s l traps))

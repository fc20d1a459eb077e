use Rattle.std.proofs.Common.{◌∙◌, ap}
use Rattle.mx_core.specs.Kept.{state_of}
use Rattle.mx_run.specs.FlagMaps.{flags_at}
use Rattle.mx_plan.proofs.KeptHosts.{keeps_host-kept}
use Rattle.mx_con.proofs.Parts.{part-after, part-alone}
use Rattle.mx_con.proofs.StepPlans.{stepped-went, stepped-halted, stepped-stopped, stepped-lacked}
use Rattle.mx_con.proofs.steps.step_once.Goals as goal

pub returns-in-Went-clause-part : goal.returns-in-Went-clause-part
returns-in-Went-clause-part g c =
    part-after (keeps_host-kept _ _ _ _ c.in-Went.ensures.turn.keeps) c.write_trace.ensures (λ e. e)
    (λ t h. stepped-went c.args.steps c.steps_left.result c.in-Went.trace _ _ _ _ _ _ _ _ _
    c.steps_left.ensures c.if-steps_left-eq0.false (ap flags_at c.in-Went.ensures.flags) (ap state_of c.machine-in-Went.ensures) (c.in-Went.ensures.turn.plan t) h)

pub returns-in-Halted-clause-part : goal.returns-in-Halted-clause-part
returns-in-Halted-clause-part g c =
    part-alone (keeps_host-kept _ _ _ _ c.in-Halted.ensures.turn.keeps) (λ e. absurd (cc))
    (λ t. stepped-halted c.args.steps c.steps_left.result c.in-Halted.status _ _ _ _ _ _
    c.steps_left.ensures c.if-steps_left-eq0.false (ap flags_at c.in-Halted.ensures.flags) (c.in-Halted.ensures.turn.plan t))

pub returns-in-Stopped-clause-part : goal.returns-in-Stopped-clause-part
returns-in-Stopped-clause-part g c =
    part-alone (keeps_host-kept _ _ _ _ c.in-Stopped.ensures.turn.keeps) (λ e. absurd (cc))
    (λ t. stepped-stopped c.args.steps c.steps_left.result c.pc-pc.result c.in-Stopped.reason _ _ _ _ _ _
    c.steps_left.ensures c.if-steps_left-eq0.false (ap flags_at c.in-Stopped.ensures.flags)
    (c.pc-pc.ensures.value ∙ ap (λ k. (state_of k).pc) c.machine.ensures) (c.in-Stopped.ensures.turn.plan t))

pub returns-in-OutOfMemory-clause-part : goal.returns-in-OutOfMemory-clause-part
returns-in-OutOfMemory-clause-part g c =
    part-alone (keeps_host-kept _ _ _ _ c.in-OutOfMemory.ensures.turn.keeps) (λ e. absurd (cc))
    (λ t. stepped-lacked c.args.steps c.steps_left.result _ _ _ _ _ _
    c.steps_left.ensures c.if-steps_left-eq0.false (ap flags_at c.in-OutOfMemory.ensures.flags) (c.in-OutOfMemory.ensures.turn.plan t))

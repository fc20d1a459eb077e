use Rattle.std.proofs.Common.{subst, Ok, Err}
use Rattle.mx_host.specs.HostModel.{contents}
use Rattle.mx_host.proofs.Keeping.{keeps-all}
use Rattle.mx_core.specs.Kept.{state_of}
use Rattle.mx_run.specs.Runs.{IsLater}
use Rattle.mx_run.proofs.Areas.{has-window}
use Rattle.mx_run.proofs.FreeRuns.{went-turn}
use Rattle.mx_run.proofs.Later.{stepped-later}
use Rattle.mx_run.proofs.TurnAnswers.{went-comes}
use Rattle.mx_watch.specs.WatchedRuns.{StepsTo}
use Rattle.mx_watch.proofs.running.next_trace.Goals as goal

pub returns-then-step_if_usual-clause-went : goal.returns-then-step_if_usual-clause-went
returns-then-step_if_usual-clause-went g c = λ _ t.
    went-turn _ _ _ _ _ (went-comes (state_of c.args.machine.now) _ (contents (g.H.Host.told c.args.host.now)) c.step_if_usual.new.trace (c.step_if_usual.ensures.made c.if-step_if_usual.true))

pub returns-then-step_if_usual-clause-has_window : goal.returns-then-step_if_usual-clause-has_window
returns-then-step_if_usual-clause-has_window g c = has-window _ _ c.machines_keep_the_invariant.ensures c.machines_are_whole.ensures

pub returns-then-step_if_usual-clause-bound : goal.returns-then-step_if_usual-clause-bound
returns-then-step_if_usual-clause-bound g c = stepped-later _ _ _ (c.step_if_usual.ensures.made c.if-step_if_usual.true)

pub returns-then-step_if_usual-clause-keeps : goal.returns-then-step_if_usual-clause-keeps
returns-then-step_if_usual-clause-keeps g c = keeps-all _ _

pub returns-in-Ok-clause-went : goal.returns-in-Ok-clause-went
returns-in-Ok-clause-went g c = λ _.
    subst (λ s. StepsTo (g.H.Host.told c.args.host.now) (g.H.Host.told c.trace_step.new.host) s (state_of c.trace_step.new.machine) (Ok c.in-Ok.other)) (c.step_if_usual.ensures.kept c.if-step_if_usual.false) c.in-Ok.ensures.told

pub returns-in-Ok-clause-has_window : goal.returns-in-Ok-clause-has_window
returns-in-Ok-clause-has_window g c = has-window _ _ c.machines_keep_the_invariant.ensures c.machines_are_whole.ensures

pub returns-in-Ok-clause-bound : goal.returns-in-Ok-clause-bound
returns-in-Ok-clause-bound g c = subst (λ s. IsLater 1 s (state_of c.trace_step.new.machine)) (c.step_if_usual.ensures.kept c.if-step_if_usual.false) c.in-Ok.ensures.bound

pub returns-in-Err-clause-ended : goal.returns-in-Err-clause-ended
returns-in-Err-clause-ended g c = λ _.
    subst (λ s. StepsTo (g.H.Host.told c.args.host.now) (g.H.Host.told c.trace_step.new.host) s (state_of c.trace_step.new.machine) (Err c.in-Err.why)) (c.step_if_usual.ensures.kept c.if-step_if_usual.false) c.in-Err.ensures.told

pub returns-in-Err-clause-has_window : goal.returns-in-Err-clause-has_window
returns-in-Err-clause-has_window g c = has-window _ _ c.machines_keep_the_invariant.ensures c.machines_are_whole.ensures

pub returns-in-Err-clause-bound : goal.returns-in-Err-clause-bound
returns-in-Err-clause-bound g c = subst (λ s. IsLater 1 s (state_of c.trace_step.new.machine)) (c.step_if_usual.ensures.kept c.if-step_if_usual.false) c.in-Err.ensures.bound

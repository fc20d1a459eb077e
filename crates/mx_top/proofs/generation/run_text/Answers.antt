use Rattle.mx_top.proofs.Caused.{fails-lacking, fails-refused}
use Rattle.mx_top.proofs.WorkParts.{generated-run, generated-refused}
use Rattle.mx_top.proofs.WorkPlans.{both-lacks}
use Rattle.mx_top.proofs.generation.run_text.Goals as goal

pub returns-in-Ok : goal.returns-in-Ok
returns-in-Ok g c = record {
  both = generated-run _ _ _ c.args.order.now _ _ _ (cc) (c.in-Ok.ensures (λ e. absurd (cc))) c.run_generated.ensures.both;
  causes = c.run_generated.ensures.causes;
}

pub returns-in-Err-Refused : goal.returns-in-Err-Refused
returns-in-Err-Refused g c = record {
  both = generated-refused _ _ c.args.order.now _ _ (rw c.in-Err-Refused.field-0-is at (c.in-Err-Refused.ensures (λ e. absurd (cc (e, c.in-Err-Refused.field-0-is))))) (rw c.in-Err-Refused.field-0-is at c.outcome.ensures);
  causes = fails-refused g.H.Host.told g.H.Host.faults _ _ _ c.outcome.ensures;
}

pub returns-in-Err-OutOfMemory : goal.returns-in-Err-OutOfMemory
returns-in-Err-OutOfMemory g c = record { both = both-lacks _ _; causes = fails-lacking g.H.Host.told g.H.Host.faults _ }

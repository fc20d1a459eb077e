use Rattle.mx_con.proofs.StepPlans.{broke-ended, broke-over, traced-ended, traced-over}
use Rattle.mx_con.proofs.steps.end_run.Goals as goal

pub returns-in-Ok-clause-part : goal.returns-in-Ok-clause-part
returns-in-Ok-clause-part g c = λ ne. rw c.in-Broke.is (broke-ended _ _ _ _ _ c.in-Ok.ensures)

pub returns-in-Err-clause-part : goal.returns-in-Err-clause-part
returns-in-Err-clause-part g c = λ ne. rw c.in-Broke.is (broke-over _ _ _ _ _ c.in-Err.end c.in-Err.ensures)

pub returns-in-Ok-write_trace-clause-part : goal.returns-in-Ok-write_trace-clause-part
returns-in-Ok-write_trace-clause-part g c = λ ne. rw c.in-Traced.is (traced-ended c.in-Traced.step _ _ (rw c.machine.ensures at c.in-Ok-write_trace.ensures))

pub returns-in-Err-write_trace-clause-part : goal.returns-in-Err-write_trace-clause-part
returns-in-Err-write_trace-clause-part g c = λ ne. rw c.in-Traced.is (traced-over c.in-Traced.step _ _ c.in-Err-write_trace.end (rw c.machine.ensures at c.in-Err-write_trace.ensures))

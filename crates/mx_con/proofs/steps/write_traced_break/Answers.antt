use Rattle.mx_con.proofs.Parts.{part-after, part-so}
use Rattle.mx_con.proofs.StepPlans.{traced-broke, untraced-broke}
use Rattle.mx_con.proofs.steps.write_traced_break.Goals as goal

pub returns-in-Ok : goal.returns-in-Ok
returns-in-Ok g c =
    part-after c.in-Ok.ensures.keeps c.write_break_line.ensures (λ e. e)
    (λ t h. traced-broke c.args.kind c.args.at c.args.trace _ _ _ _ _ _ c.write_break_line.result (rw c.machine.ensures at (c.in-Ok.ensures.told t)) h)

pub returns-in-Err : goal.returns-in-Err
returns-in-Err g c = part-so (rw c.machine.ensures at c.in-Err.ensures) (λ h. untraced-broke c.args.kind c.args.at c.args.trace _ _ _ _ c.in-Err.end h)

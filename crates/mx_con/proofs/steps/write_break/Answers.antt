use Rattle.mx_con.proofs.Parts.{part-so}
use Rattle.mx_con.proofs.StepPlans.{broke-comes}
use Rattle.mx_con.proofs.steps.write_break.Goals as goal

pub returns-in-Some : goal.returns-in-Some
returns-in-Some g c = rw c.in-Some.is c.write_traced_break.ensures

pub returns-in-None : goal.returns-in-None
returns-in-None g c = rw c.in-None.is (part-so c.write_break_line.ensures (λ h. broke-comes c.args.kind c.args.at _ _ _ _ c.write_break_line.result h))

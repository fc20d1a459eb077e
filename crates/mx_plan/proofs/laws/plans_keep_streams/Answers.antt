use Rattle.mx_plan.proofs.Streams.{streams-end}
use Rattle.mx_plan.proofs.laws.plans_keep_streams.Goals as goal

pub returns-clause-ending : goal.returns-clause-ending
returns-clause-ending g c = λ p w. streams-end p w

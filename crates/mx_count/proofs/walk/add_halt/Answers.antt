use Rattle.mx_count.proofs.CountedTraces.{same-step}
use Rattle.mx_count.proofs.walk.add_halt.Goals as goal

pub returns : goal.returns
returns c = λ test. same-step test _ _ _ c.args.pc c.in-Some.ensures (c.in_ok-add_step.ensures.ok test)

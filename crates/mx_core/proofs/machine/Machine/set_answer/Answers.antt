use Rattle.mx_core.specs.Effects.{if_told}
use Rattle.mx_code.specs.SpecialRegisters.{rH, rR}
use Rattle.mx_core.specs.Kept.{state_of}
use Rattle.mx_core.proofs.KeptSteps.{answer-then}
use Rattle.mx_core.proofs.machine.Machine.set_answer.Goals as goal

pub returns-in-Ok-clause-made : goal.returns-in-Ok-clause-made
returns-in-Ok-clause-made c = λ n t.
    answer-then (state_of c.args.self.now) (state_of c.set.new.self) (state_of c.put_told.new.self) (state_of c.put_told-in-Ok.new.self) c.args.k c.args.a.now.x n (if_told rH c.args.a.now.h) (if_told rR c.args.a.now.r)
    c.in-Ok.ensures.made c.put_told.ensures.state c.put_told-in-Ok.ensures.state

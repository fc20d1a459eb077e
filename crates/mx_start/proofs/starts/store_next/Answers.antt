use Rattle.mx_core.specs.Kept.{state_of}
use Rattle.mx_start.proofs.StoredOctas.{stored-negative, stored-some, stored-none}
use Rattle.mx_start.proofs.starts.store_next.Goals as goal

pub returns-then-a-clause-stored : goal.returns-then-a-clause-stored
returns-then-a-clause-stored c = λ _. stored-negative (state_of c.args.machine.now) c.args.a c.args.x c.if-a.true

pub returns-in-Ok-clause-stored : goal.returns-in-Ok-clause-stored
returns-in-Ok-clause-stored c = λ _. stored-some (state_of c.args.machine.now) (state_of c.set_octa.new.self) c.args.a c.args.x c.if-a.false (c.in-Ok.ensures.ok (λ e. absurd (cc)))

pub returns-in-Err-NotAllowed-clause-stored : goal.returns-in-Err-NotAllowed-clause-stored
returns-in-Err-NotAllowed-clause-stored c = λ _. stored-none (state_of c.args.machine.now) (state_of c.set_octa.new.self) c.args.a c.args.x c.in-Err-NotAllowed.field-0 c.if-a.false (c.in-Err-NotAllowed.ensures.ok (λ e. absurd (cc (e, c.in-Err-NotAllowed.field-0-is))))

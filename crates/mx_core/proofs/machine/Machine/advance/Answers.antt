use Rattle.std.proofs.Common.{sym, ◌∙◌}
use Rattle.mx_core.proofs.Walks.{one-step, one-kept}
use Rattle.mx_core.specs.Kept.{state_of}
use Rattle.mx_core.proofs.machine.Machine.advance.Goals as goal

pub returns-clause-answer : goal.returns-clause-answer
returns-clause-answer c = one-step _ (state_of c.args.self.now) (state_of c.advance_many.new.self) _ c.advance_many.ensures.goes c.advance_many.ensures.all c.advance_many.ensures.fewer c.advance_many.ensures.last

pub returns-clause-memory : goal.returns-clause-memory
returns-clause-memory c = λ e. one-kept _ (state_of c.args.self.now) (state_of c.advance_many.new.self) _ c.advance_many.ensures.goes c.advance_many.ensures.fewer (λ x. let f = sym e ∙ x in absurd (cc))

pub returns-clause-lacks_memory : goal.returns-clause-lacks_memory
returns-clause-lacks_memory c = λ e. rw (returns-clause-memory c e) at (c.advance_many.ensures.lacks_memory e)

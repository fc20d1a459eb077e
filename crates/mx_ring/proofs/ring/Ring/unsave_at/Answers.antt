use Rattle.std.proofs.Common.{ap, ◌∙◌, sym}
use Rattle.std.proofs.lemmas.Result.{on_ok_weaker}
use Rattle.mx_ring.proofs.Lists.{frame-answer-list, unsaved-list}
use Rattle.mx_ring.specs.Stack.{as_listed}
use Rattle.mx_ring.proofs.ring.Ring.unsave_at.Goals as goal

pub returns-clause-list_answer : goal.returns-clause-list_answer
returns-clause-list_answer c f = c.read_frame.ensures.answer ∙ sym (frame-answer-list c.args.self.now c.args.i c.read_frame.ensures.bounds f)

pub returns-clause-list : goal.returns-clause-list
returns-clause-list c f = on_ok_weaker c.read_frame.result (λ e. ap as_listed e ∙ unsaved-list c.args.self.now c.args.i c.read_frame.ensures.bounds f) c.read_frame.ensures.ok

use Rattle.std.proofs.Common.{sym, ◌∙◌}
use Rattle.mx_core.specs.Kept.{state_of}
use Rattle.mx_run.proofs.TurnAnswers.{trap-comes}
use Rattle.mx_run.proofs.turning.trap_turn.Goals as goal

pub returns-clause-told : goal.returns-clause-told
returns-clause-told g c = λ t.
    trap-comes (state_of c.args.machine.now) _ _ _ _ c.args.call.now _ _ _ c.requires c.touches-looks.ensures c.do_trap-answer.ensures.whole
    (c.do_trap-answer.ensures.told t) c.finish_with_answer.ensures.told c.finish_with_answer.ensures.memory c.finish_with_answer.ensures.unmade c.finish_with_answer.ensures.touch

pub returns-clause-same : goal.returns-clause-same
returns-clause-same g c = λ e.
    let refused = sym c.finish_with_answer.ensures.changes ∙ e in
    c.finish_with_answer.ensures.same refused ∙ c.do_trap-answer.ensures.same refused

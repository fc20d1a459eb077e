use Rattle.mx_host.specs.HostModel.{contents}
use Rattle.mx_run.specs.WildRuns.{window_machine}
use Rattle.law_runs.proofs.SparedPrograms.{program-spared, halted-called, played-called, asm-answers, gen-answers}
use Rattle.law_runs.proofs.called.calls_answer_what_is_due.Goals as goal

pub returns-clause-run : goal.returns-clause-run
returns-clause-run c = λ p r.
    halted-called p.words p.order p.image r.status r.ended r.after p.old p.new p.outcome p.called p.there.there.slots
    (program-spared window_machine p.words p.order p.form p.image (contents p.old) p.there p.none) r.halts p.enough

pub returns-clause-asm : goal.returns-clause-asm
returns-clause-asm c = λ p e. asm-answers p.words p.order p.text p.old p.new p.outcome p.called p.ordered p.there p.none e p.enough

pub returns-clause-generate : goal.returns-clause-generate
returns-clause-generate c = λ p. gen-answers p.words p.left p.line p.old p.new p.outcome p.called p.slots p.none p.generated p.enough

pub returns-clause-console : goal.returns-clause-console
returns-clause-console c = λ p r.
    played-called p.words p.order p.image r.outcome r.ended r.after p.old p.new p.outcome p.called p.there.there.slots
    (program-spared window_machine p.words p.order p.form p.image (contents p.old) p.there p.none) r.plays p.enough

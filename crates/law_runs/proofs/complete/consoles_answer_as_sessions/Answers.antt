use Rattle.std.proofs.Common.{◌∙◌}
use Rattle.law_runs.proofs.Completed.{program-run, sat-image, played-image}
use Rattle.law_runs.proofs.complete.consoles_answer_as_sessions.Goals as goal

pub returns-clause-session : goal.returns-clause-session
returns-clause-session c = λ p s k.
    program-run p.run.kind p.run.words p.run.order p.form p.run.image p.old p.run.host p.has
    ∙ sat-image p.run.kind p.run.words p.run.order p.run.image s p.run.host k.0 k.1

pub returns-clause-plain : goal.returns-clause-plain
returns-clause-plain c = λ p r d.
    program-run p.run.kind p.run.words p.run.order p.form p.run.image p.old p.run.host p.has
    ∙ played-image p.run.kind p.run.words p.run.order p.run.image p.run.host r.outcome r.ended r.after r.plays d

use Rattle.law_runs.proofs.SparedPrograms.{program-spared, sat-spared}
use Rattle.law_runs.proofs.complete.consoles_of_what_is_there_answer_as_sessions.Goals as goal

pub returns : goal.returns
returns c = λ p s k.
    sat-spared p.kind p.words p.order p.image s p.host (program-spared p.kind p.words p.order p.form p.image p.host p.there p.none) k.0 k.1

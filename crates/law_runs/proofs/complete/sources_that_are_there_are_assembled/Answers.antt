use Rattle.law_runs.proofs.SparedPrograms.{assembled-spared, told-spared}
use Rattle.law_runs.proofs.complete.sources_that_are_there_are_assembled.Goals as goal

pub returns-clause-done : goal.returns-clause-done
returns-clause-done c = λ p. assembled-spared p.kind p.words p.order p.text p.host p.ordered p.there p.none

pub returns-clause-told : goal.returns-clause-told
returns-clause-told c = λ p. told-spared p.kind p.words p.order p.text p.host p.ordered p.there p.none

use Rattle.law_runs.proofs.ListedObjects.{listed-spared, listed-called}
use Rattle.law_runs.proofs.listings.objects_that_are_there_are_listed.Goals as goal

pub returns-clause-listed : goal.returns-clause-listed
returns-clause-listed c = λ p. listed-spared p.kind p.words p.order p.bytes p.host p.ordered p.there p.none

pub returns-clause-called : goal.returns-clause-called
returns-clause-called c = λ p. listed-called p.words p.order p.bytes p.old p.new p.outcome p.called p.ordered p.there p.none p.enough

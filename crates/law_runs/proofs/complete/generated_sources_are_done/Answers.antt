use Rattle.law_runs.proofs.Completed.{generated-means, generated-done}
use Rattle.law_runs.proofs.SparedPrograms.{generated-spared}
use Rattle.law_runs.proofs.complete.generated_sources_are_done.Goals as goal

pub returns-clause-means : goal.returns-clause-means
returns-clause-means c = generated-means

pub returns-clause-written : goal.returns-clause-written
returns-clause-written c = λ g after. generated-done g.kind g.words g.old g.left after g.line g.generated

pub returns-clause-spared : goal.returns-clause-spared
returns-clause-spared c = λ g. generated-spared g.kind g.words g.host g.left g.line g.slots g.none g.generated

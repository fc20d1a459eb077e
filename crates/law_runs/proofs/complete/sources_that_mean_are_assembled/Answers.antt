use Rattle.law_runs.proofs.Completed.{source-written, accepted-written, refused-written}
use Rattle.law_runs.proofs.complete.sources_that_mean_are_assembled.Goals as goal

pub returns-clause-means : goal.returns-clause-means
returns-clause-means c = λ w image. source-written w.kind w.words w.text image w.old w.after w.written

pub returns-clause-done : goal.returns-clause-done
returns-clause-done c = λ w. accepted-written w.kind w.words w.text w.old w.after w.written

pub returns-clause-refused : goal.returns-clause-refused
returns-clause-refused c = λ w r. refused-written w.kind w.words w.text r w.old w.after w.written

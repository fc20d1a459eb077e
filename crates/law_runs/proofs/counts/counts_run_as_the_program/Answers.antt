use Rattle.law_runs.proofs.CountedAnswers.{answers-text, answers-data, answers-object}
use Rattle.law_runs.proofs.counts.counts_run_as_the_program.Goals as goal

pub returns-clause-text : goal.returns-clause-text
returns-clause-text c = λ r. answers-text r.kind r.words r.order r.host r.plain

pub returns-clause-data : goal.returns-clause-data
returns-clause-data c = λ r. answers-data r.kind r.words r.order r.host r.plain

pub returns-clause-object : goal.returns-clause-object
returns-clause-object c = λ r. answers-object r.kind r.words r.order r.host r.plain

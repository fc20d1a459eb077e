use Rattle.law_runs.proofs.CountedAnswers.{sheet-is}
use Rattle.law_runs.proofs.counts.counts_go_by_the_traces_of_their_runs.Goals as goal

pub returns : goal.returns
returns c = λ r. sheet-is r.kind r.words r.order r.source r.start r.host r.begun r.last r.plain r.reports r.starts r.comes

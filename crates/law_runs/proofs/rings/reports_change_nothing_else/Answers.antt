use Rattle.law_runs.proofs.SameRings.{reports-alone}
use Rattle.law_runs.proofs.WatchedCalls.{watched-called}
use Rattle.law_runs.proofs.rings.reports_change_nothing_else.Goals as goal

pub returns-clause-words : goal.returns-clause-words
returns-clause-words c = λ kind r m same. reports-alone kind r.words r.others r.one r.other m r.first r.second r.alike same

pub returns-clause-calls : goal.returns-clause-calls
returns-clause-calls c = watched-called

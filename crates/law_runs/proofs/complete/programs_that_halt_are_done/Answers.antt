use Rattle.law_runs.proofs.Completed.{program-run, runs-plain, runs-dumped}
use Rattle.law_runs.proofs.complete.programs_that_halt_are_done.Goals as goal

pub returns-clause-plain : goal.returns-clause-plain
returns-clause-plain c = λ p r d.
    runs-plain p.run.kind p.run.words p.run.order p.run.image r.status r.ended p.old p.run.host r.after
    (program-run p.run.kind p.run.words p.run.order p.form p.run.image p.old p.run.host p.has) r.halts d

pub returns-clause-dumped : goal.returns-clause-dumped
returns-clause-dumped c = λ p r last d.
    runs-dumped p.run.kind p.run.words p.run.order p.run.image r.status r.ended p.old p.run.host r.after last
    (program-run p.run.kind p.run.words p.run.order p.form p.run.image p.old p.run.host p.has) r.halts d.0 d.1

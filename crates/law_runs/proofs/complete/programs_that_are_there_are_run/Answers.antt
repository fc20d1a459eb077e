use Rattle.law_runs.proofs.CompletedFiles.{file-left}
use Rattle.law_runs.proofs.SparedPrograms.{program-spared, halted-plain, halted-dumped}
use Rattle.law_runs.proofs.complete.programs_that_are_there_are_run.Goals as goal

pub returns-clause-read : goal.returns-clause-read
returns-clause-read c = λ f. file-left f.most f.name f.host f.place f.none f.slots f.found

pub returns-clause-run : goal.returns-clause-run
returns-clause-run c = λ p. program-spared p.kind p.words p.order p.form p.image p.host p.there p.none

pub returns-clause-plain : goal.returns-clause-plain
returns-clause-plain c = λ p r d.
    halted-plain p.kind p.words p.order p.image r.status r.ended p.host r.after
    (program-spared p.kind p.words p.order p.form p.image p.host p.there p.none) r.halts d

pub returns-clause-dumped : goal.returns-clause-dumped
returns-clause-dumped c = λ p r d.
    halted-dumped p.kind p.words p.order p.image r.status r.ended p.host r.after p.there.there.slots
    (program-spared p.kind p.words p.order p.form p.image p.host p.there p.none) r.halts d

use Rattle.law_runs.proofs.SameRings.{gen-agrees, rings-agree, rings-watched}
use Rattle.law_runs.proofs.rings.two_rings_agree.Goals as goal

pub returns-clause-alone : goal.returns-clause-alone
returns-clause-alone c = λ r m. rings-agree r.words r.others r.one r.other m r.first r.second r.alike

pub returns-clause-watched : goal.returns-clause-watched
returns-clause-watched c = λ r ws m same. rings-watched r.words r.others r.one r.other ws m r.first r.second r.alike same

pub returns-clause-generated : goal.returns-clause-generated
returns-clause-generated c = gen-agrees

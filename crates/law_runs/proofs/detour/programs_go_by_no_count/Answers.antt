use Rattle.law_runs.proofs.SteadyProduct.{product-same, traces-same}
use Rattle.law_runs.proofs.detour.programs_go_by_no_count.Goals as goal

pub returns-clause-same : goal.returns-clause-same
returns-clause-same c = λ r. product-same r.kind r.words r.one r.other r.same r.first r.second

pub returns-clause-told : goal.returns-clause-told
returns-clause-told c = λ r. traces-same r.kind r.words r.one r.other r.same r.first r.second

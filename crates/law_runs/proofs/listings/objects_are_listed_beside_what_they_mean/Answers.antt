use Rattle.law_runs.proofs.ListedFaults.{loaded-listed, fault-listed}
use Rattle.law_runs.proofs.listings.objects_are_listed_beside_what_they_mean.Goals as goal

pub returns-clause-loaded : goal.returns-clause-loaded
returns-clause-loaded c = loaded-listed

pub returns-clause-faults : goal.returns-clause-faults
returns-clause-faults c = fault-listed

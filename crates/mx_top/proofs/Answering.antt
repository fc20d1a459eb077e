-- What an answer is, and what goes as it.
use Rattle.std.proofs.Common.{◌≡◌}
use Rattle.mx_host.specs.HostModel.{HostModel}
use Rattle.mx_plan.specs.Wild.{ends, meets_wild}
use Rattle.mx_files.specs.Answers.{Answer, GoesAs}
use Rattle.mx_outcome.specs.declared.outcome.Outcome.{Outcome}

-- what an answer is goes as it
pub goes-as : (a : Answer) (result : Outcome) (new : HostModel) → ends result new ≡ a → GoesAs a result new
goes-as (ends outcome m) result new e = (cc, cc)
goes-as (meets_wild m) result new e = absurd (cc)

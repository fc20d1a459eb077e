use Rattle.law_runs.proofs.LowBytes.{halts-low}
use Rattle.law_runs.proofs.called.statuses_are_low_bytes.Goals as goal

pub returns : goal.returns
returns c = λ r. halts-low r.kind r.steps r.status r.start r.ended r.host r.after r.halts

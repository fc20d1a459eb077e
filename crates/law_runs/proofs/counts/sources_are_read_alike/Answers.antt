use Rattle.law_runs.proofs.ReadAlike.{short-alike}
use Rattle.law_runs.proofs.counts.sources_are_read_alike.Goals as goal

pub returns : goal.returns
returns c = λ f. short-alike f.name f.text f.host f.after f.short f.read

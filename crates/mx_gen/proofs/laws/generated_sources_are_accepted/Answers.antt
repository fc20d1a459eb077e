use Rattle.mx_gen.proofs.Meaning.{not-refused, not-refused-run}
use Rattle.mx_gen.proofs.laws.generated_sources_are_accepted.Goals as goal

pub returns : goal.returns
returns c = record { assembled = not-refused; run = not-refused-run }

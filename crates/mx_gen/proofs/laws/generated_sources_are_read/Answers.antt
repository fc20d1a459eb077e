use Rattle.mx_gen.proofs.SourceRead.{generated-read}
use Rattle.mx_gen.proofs.Meaning.{statements-of}
use Rattle.mx_gen.proofs.laws.generated_sources_are_read.Goals as goal

pub returns : goal.returns
returns c = record { entries = generated-read; statements = statements-of }

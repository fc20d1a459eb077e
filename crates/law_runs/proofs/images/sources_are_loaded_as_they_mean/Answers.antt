use Rattle.mx_files.proofs.SourceImages.{source-is}
use Rattle.law_runs.proofs.images.sources_are_loaded_as_they_mean.Goals as goal

pub returns : goal.returns
returns c = source-is

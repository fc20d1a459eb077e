use Rattle.law_runs.proofs.WholeFiles.{file-read}
use Rattle.law_runs.proofs.files.files_are_read_whole.Goals as goal

pub returns-clause-there : goal.returns-clause-there
returns-clause-there c = λ f. file-read f.most f.name f.host f.place f.none f.slots f.found

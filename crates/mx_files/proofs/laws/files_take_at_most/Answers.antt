use Rattle.mx_files.proofs.TakenFiles.{file-takes}
use Rattle.mx_files.proofs.laws.files_take_at_most.Goals as goal

pub returns : goal.returns
returns c = file-takes

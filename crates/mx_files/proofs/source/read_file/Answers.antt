use Rattle.mx_files.proofs.FileClauses.{ended-unused, file-output, part-keeps}
use Rattle.mx_files.proofs.Serving.{only-failed, read-served-there}
use Rattle.mx_files.proofs.source.read_file.Goals as goal

pub returns-clause-told : goal.returns-clause-told
returns-clause-told g c = λ t. (c.whole_file.ensures.told t).ending

pub returns-clause-output : goal.returns-clause-output
returns-clause-output g c = λ t. file-output _ _ _ _ _ (c.whole_file.ensures.told t)

pub returns-clause-causes : goal.returns-clause-causes
returns-clause-causes g c = (
  only-failed _ _ _ _ _ _ (read-served-there _ _) c.whole_file.ensures,
  c.whole_file.ensures.absent,
  ended-unused _ c.whole_file.ensures.ends,
  part-keeps _ _ _ _ _ _ c.whole_file.ensures,
)

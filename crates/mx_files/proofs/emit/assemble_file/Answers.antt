use Rattle.mx_files.proofs.FileClauses.{whole-told, whole-cause, whole-rose, whole-absent, whole-words, whole-keeps, assembled-front}
use Rattle.mx_files.proofs.Serving.{assemble-served}
use Rattle.mx_files.proofs.emit.assemble_file.Goals as goal

pub returns-clause-plan : goal.returns-clause-plan
returns-clause-plan g c = whole-told _ _ _ _ _ c.whole_outcome.ensures c.assemble.ensures.told

pub returns-clause-cause : goal.returns-clause-cause
returns-clause-cause g c = whole-cause _ _ _ _ _ _ _ c.whole_outcome.ensures c.assemble.ensures

pub returns-clause-told : goal.returns-clause-told
returns-clause-told g c = λ t. (whole-told _ _ _ _ _ c.whole_outcome.ensures c.assemble.ensures.told t).ending

pub returns-clause-written : goal.returns-clause-written
returns-clause-written g c = λ t. assembled-front _ _ _ _ _ (whole-told _ _ _ _ _ c.whole_outcome.ensures c.assemble.ensures.told t)

pub returns-clause-causes : goal.returns-clause-causes
returns-clause-causes g c = (
  whole-rose _ _ _ _ _ _ _ c.whole_outcome.ensures (assemble-served _ _) c.assemble.ensures,
  whole-absent _ _ _ _ _ _ _ c.whole_outcome.ensures c.assemble.ensures,
  whole-words _ _ _ _ _ _ _ c.whole_outcome.ensures c.assemble.ensures,
  whole-keeps _ _ _ _ _ _ (whole-told _ _ _ _ _ c.whole_outcome.ensures c.assemble.ensures.told) c.assemble.ensures.keeps,
)

use Rattle.mx_files.proofs.FileClauses.{whole-told, whole-cause, whole-rose, whole-absent, whole-words, whole-keeps, listed-told, listed-goes, listed-front}
use Rattle.mx_files.proofs.Serving.{list-served}
use Rattle.mx_files.proofs.typing.list_file.Goals as goal

pub returns-clause-plan : goal.returns-clause-plan
returns-clause-plan g c = whole-told _ _ _ _ _ c.whole_outcome.ensures c.list_whole.ensures.told

pub returns-clause-cause : goal.returns-clause-cause
returns-clause-cause g c = whole-cause _ _ _ _ _ _ _ c.whole_outcome.ensures c.list_whole.ensures

pub returns-clause-told : goal.returns-clause-told
returns-clause-told g c = λ t. listed-told _ _ _ _ (whole-told _ _ _ _ _ c.whole_outcome.ensures c.list_whole.ensures.told t)

pub returns-clause-listed : goal.returns-clause-listed
returns-clause-listed g c = λ t. listed-goes _ _ _ _ (whole-told _ _ _ _ _ c.whole_outcome.ensures c.list_whole.ensures.told t)

pub returns-clause-front : goal.returns-clause-front
returns-clause-front g c = λ t. listed-front _ _ _ _ (whole-told _ _ _ _ _ c.whole_outcome.ensures c.list_whole.ensures.told t)

pub returns-clause-causes : goal.returns-clause-causes
returns-clause-causes g c = (
  whole-rose _ _ _ _ _ _ _ c.whole_outcome.ensures (list-served _) c.list_whole.ensures,
  whole-absent _ _ _ _ _ _ _ c.whole_outcome.ensures c.list_whole.ensures,
  whole-words _ _ _ _ _ _ _ c.whole_outcome.ensures c.list_whole.ensures,
  whole-keeps _ _ _ _ _ _ (whole-told _ _ _ _ _ c.whole_outcome.ensures c.list_whole.ensures.told) c.list_whole.ensures.keeps,
)

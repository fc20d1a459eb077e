use Rattle.mx_files.proofs.Parts.{works-on}
use Rattle.mx_files.proofs.typing.list_fed.Goals as goal

pub returns : goal.returns
returns g c = works-on _ _ _ _ _ _ _ _ _ (rw c.new-lister.ensures.lambda at c.in_ok-list_items.ensures.last) c.list_end.ensures

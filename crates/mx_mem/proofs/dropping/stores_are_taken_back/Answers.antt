use Rattle.mx_mem.proofs.Removals.{store-undone, page-undone, pages-undone}
use Rattle.mx_mem.proofs.dropping.stores_are_taken_back.Goals as goal

pub returns : goal.returns
returns c = record { octa = store-undone; page = page-undone; pages = pages-undone }

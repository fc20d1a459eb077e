use Rattle.mx_book.proofs.Nearest.{none-nearer}
use Rattle.mx_book.proofs.laws.no_label_is_nearer.Goals as goal

pub returns : goal.returns
returns c = none-nearer

use Rattle.mx_book.proofs.Earliest.{none-earlier}
use Rattle.mx_book.proofs.laws.no_line_is_earlier.Goals as goal

pub returns : goal.returns
returns c = none-earlier

use Rattle.mx_gen.proofs.ShownLines.{shown-line-cut}
use Rattle.mx_gen.proofs.shown.shown_lines_are_one_statement.Goals as goal

pub returns : goal.returns
returns c = shown-line-cut

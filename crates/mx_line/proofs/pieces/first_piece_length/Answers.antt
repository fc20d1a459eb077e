use Rattle.std.proofs.Common.{sym}
use Rattle.mx_line.proofs.PieceLemmas.{none-length}
use Rattle.mx_line.proofs.pieces.first_piece_length.Goals as goal

pub returns-in-None-clause-value : goal.returns-in-None-clause-value
returns-in-None-clause-value c = none-length _ _ (sym c.in-None.ensures)

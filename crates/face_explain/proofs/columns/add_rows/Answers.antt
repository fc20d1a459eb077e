use Rattle.std.proofs.Common.{sym}
use Rattle.mx_explain.specs.Topics.{row}
use Rattle.face_explain.specs.Lists.{part_cells}
use Rattle.face_explain.proofs.ListTurns.{cells-mapped}
use Rattle.face_explain.proofs.columns.add_rows.Goals as goal

pub returns : goal.returns
unfolding part_cells
returns c = rw (sym (cells-mapped c.args.part.entries.now (λ e. row e.0 e.1.now e.2.now e.3.now e.4.now) c.args.part.width c.args.part.most c.args.part.most)) c.add_cells.ensures

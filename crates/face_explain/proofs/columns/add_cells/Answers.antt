use Rattle.std.proofs.Common.{◌∙◌}
use Rattle.mx_explain.specs.Topics.{row, seen}
use Rattle.face_explain.proofs.ListTurns.{cells-at}
use Rattle.face_explain.proofs.columns.add_cells.Goals as goal

pub loop-rest-preserved : goal.loop-rest-preserved
loop-rest-preserved c =
    let step =
    cells-at (λ e. row e.0 e.1.now e.2.now e.3.now e.4.now) c.args.width c.args.most c.loop-rest.left c.loop-rest.text c.loop-rest.rest.now _
    (seen c.row_of.result) c.is_empty.result c.in-len1-up.len_at_least c.row_of.ensures c.is_empty.ensures in
    rw (c.in_ok-add_cell.ensures, c.next_left-left.ensures) (c.loop-rest.invariant ∙ step)

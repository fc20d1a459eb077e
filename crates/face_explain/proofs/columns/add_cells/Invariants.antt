use Rattle.std.proofs.Common.{◌≡◌, ◌++◌, length}
use Rattle.mx_explain.specs.Topics.{row}
use Rattle.face_explain.specs.Lists.{cells}
use Rattle.face_explain.proofs.columns.add_cells.Given as goal

abbrev pub invariant-loop-rest : goal.invariant-loop-rest
invariant-loop-rest l =
    l.fn.text ++ cells (λ e. row e.0 e.1.now e.2.now e.3.now e.4.now) l.width l.most l.most l.entries
    ≡ l.text ++ cells (λ e. row e.0 e.1.now e.2.now e.3.now e.4.now) l.width l.most l.left l.rest

abbrev pub decreases-loop-rest : goal.decreases-loop-rest
decreases-loop-rest l = length l.rest

use Rattle.std.proofs.Common.{◌≡◌, [], fold, take}
use Rattle.mx_view.specs.Rows.{with_cell}
use Rattle.mx_view.proofs.lines.once.Given as goal

abbrev pub invariant-loop-cell : goal.invariant-loop-cell
invariant-loop-cell l = l.joined ≡ fold with_cell [] (take l.cell-index l.cells)

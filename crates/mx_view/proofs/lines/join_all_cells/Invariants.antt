use Rattle.std.proofs.Common.{◌≡◌, map, take}
use Rattle.mx_view.specs.Rows.{joined_with}
use Rattle.mx_view.proofs.lines.join_all_cells.Given as goal

abbrev pub invariant-loop-cell : goal.invariant-loop-cell
invariant-loop-cell l = l.joined ≡ map (joined_with l.with) (take l.cell-index l.cells)

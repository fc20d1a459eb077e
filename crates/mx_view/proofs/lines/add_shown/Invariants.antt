use Rattle.std.proofs.Common.{◌≡◌, ◌++◌, map, take}
use Rattle.mx_view.specs.Rows.{meaning_in, shown_cell}
use Rattle.mx_view.proofs.lines.add_shown.Given as goal

abbrev pub invariant-loop-cell : goal.invariant-loop-cell
invariant-loop-cell l = l.shown ≡ l.fn.shown ++ map (shown_cell (meaning_in l.meaning)) (take l.cell-index l.cells)

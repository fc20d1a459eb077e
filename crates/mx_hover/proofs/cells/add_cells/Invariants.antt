use Rattle.std.proofs.Common.{◌≡◌, ◌++◌, take}
use Rattle.std.specs.List.{flat_map}
use Rattle.mx_hover.specs.Loads.{cell_text}
use Rattle.mx_hover.proofs.cells.add_cells.Given as goal

abbrev pub invariant-loop-cell : goal.invariant-loop-cell
invariant-loop-cell l = l.text ≡ l.fn.text ++ flat_map (cell_text l.is_code) (take l.cell-index l.cells)

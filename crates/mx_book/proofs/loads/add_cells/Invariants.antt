use Rattle.std.proofs.Common.{◌≡◌, ◌++◌, map, take}
use Rattle.mx_book.specs.Loads.{load_with}
use Rattle.mx_book.proofs.loads.add_cells.Given as goal

abbrev pub invariant-loop-cell : goal.invariant-loop-cell
invariant-loop-cell l = l.loads ≡ l.fn.loads ++ map (load_with l.number l.is_code) (take l.cell-index l.cells)

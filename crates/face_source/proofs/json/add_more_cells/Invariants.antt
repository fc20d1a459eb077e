use Rattle.std.proofs.Common.{◌≡◌, ◌++◌, take}
use Rattle.mx_json.specs.Json.{further}
use Rattle.face_source.specs.SourceJson.{cell_json}
use Rattle.face_source.proofs.json.add_more_cells.Given as goal

abbrev pub invariant-loop-cell : goal.invariant-loop-cell
invariant-loop-cell l = l.text ≡ l.fn.text ++ further cell_json (take l.cell-index l.cells)

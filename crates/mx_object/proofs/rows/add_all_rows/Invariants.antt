use Rattle.std.proofs.Common.{◌≡◌, ◌++◌, take}
use Rattle.std.specs.List.{flat_map}
use Rattle.mx_object.specs.Rows.{rows_of}
use Rattle.mx_object.proofs.rows.add_all_rows.Given as goal

abbrev pub invariant-loop-tetra : goal.invariant-loop-tetra
invariant-loop-tetra l = l.text ≡ l.fn.text ++ flat_map rows_of (take l.tetra-index l.tetras)

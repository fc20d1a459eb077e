-- The tetras that each line of a source loads; of one that is refused, none.
use Rattle.std.specs.Prelude.{ℕ, List, [], ◌∷◌, Ok, Err}
use Rattle.mx_files.specs.Sources.{source_meaning}
use Rattle.mx_view.specs.declared.cells.Cell.{Cell}
use Rattle.mx_view.specs.Loads.{loads_of}
use Rattle.mx_view.specs.Rows.{Meaning}

abbrev pub loads_by : List ℕ → Meaning → List (List Cell)
loads_by source (Ok image) = loads_of source
loads_by source (Err refusal) = []

abbrev pub loads_in : List ℕ → List (List Cell)
loads_in source = loads_by source (source_meaning source)

-- the tetras of the first line
abbrev pub first_cells : List (List Cell) → List Cell
first_cells [] = []
first_cells (cells ∷ more) = cells

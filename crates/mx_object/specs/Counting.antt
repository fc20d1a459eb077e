-- What is counted of a run of an object: the steps at each tetra that it loads, the steps at each part, which goes from a tetra
-- with labels up to the next one, and the steps elsewhere.
use Rattle.std.specs.Prelude.{◌-◌, Bool, true, false, not, List, [], ◌∷◌, map, Option, None, Some, if◌then◌else◌}
use Rattle.mx_count.specs.Sheets.{Counts, LineTally, is_among, line_tally}
use Rattle.mx_count.specs.declared.tally.Tally.{Tally}
use Rattle.mx_view.specs.declared.cells.Cell.{Cell}
use Rattle.mx_object.specs.declared.counting.ObjectSheet.{ObjectSheet}
use Rattle.mx_object.specs.declared.counting.TetraCount.{TetraCount}
use Rattle.mx_object.specs.declared.labels.Label.{Label}
use Rattle.mx_object.specs.declared.tetras.ListedTetra.{ListedTetra}

-- ---- parts

abbrev pub cell_of : ListedTetra → Cell
cell_of t = record { address = t.address; tetra = t.tetra }

abbrev pub cells_of : List ListedTetra → List Cell
cells_of tetras = map cell_of tetras

abbrev pub are_some : List Label → Bool
are_some [] = false
are_some (l ∷ labels) = true

-- whether a part begins with a tetra
abbrev pub begins_part : ListedTetra → Bool
begins_part t = are_some t.labels

-- the tetras up to the next part
unfoldable pub before_part : List ListedTetra → List ListedTetra
before_part [] = []
before_part (t ∷ tetras) = if begins_part t then [] else t ∷ before_part tetras

-- the part that begins with a tetra that others follow, if one does
abbrev pub part_cells : ListedTetra → List ListedTetra → List Cell
part_cells t tetras = if begins_part t then cell_of t ∷ cells_of (before_part tetras) else []

-- ---- counts

abbrev pub part_if : ListedTetra → Tally → Option Tally
part_if t y = if begins_part t then Some y else None

-- the count of a tetra that others follow, where this is the tally of lists of tetras
abbrev pub count_of : LineTally → ListedTetra → List ListedTetra → TetraCount
count_of tally t tetras = record {
  tally = tally (cell_of t ∷ []);
  part = part_if t (tally (part_cells t tetras));
}

unfoldable pub counts_of : LineTally → List ListedTetra → List TetraCount
counts_of tally [] = []
counts_of tally (t ∷ tetras) = count_of tally t tetras ∷ counts_of tally tetras

abbrev pub sheet_of : Counts → List ListedTetra → ObjectSheet
sheet_of counts tetras = record {
  tetras = tetras;
  counts = counts_of (line_tally counts) tetras;
  elsewhere = counts (λ a. not (is_among (cells_of tetras) a));
  total = counts (λ a. true);
}

-- ---- as the code finds them: the steps elsewhere are those that are left

-- what is left of these steps without those
abbrev pub less : Tally → Tally → Tally
less x y = record { times = x.times - y.times; away = x.away - y.away; oops = x.oops - y.oops; mems = x.mems - y.mems }

abbrev pub sheet_by : Counts → List ListedTetra → ObjectSheet
sheet_by counts tetras = record {
  tetras = tetras;
  counts = counts_of (line_tally counts) tetras;
  elsewhere = less (counts (λ a. true)) (line_tally counts (cells_of tetras));
  total = counts (λ a. true);
}

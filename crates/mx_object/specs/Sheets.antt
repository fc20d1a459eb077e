-- The sheet of a run of an object as a text: for each part with steps a row with their sum and its labels; for each tetra with steps
-- its row, with what is counted there; then the steps elsewhere, and the sum of all steps. The form is that of the sheet of a source.
use Rattle.std.specs.Prelude.{ℕ, ◌==◌, List, [], ◌∷◌, ◌++◌, drop, Option, None, Some, codes, if◌then◌else◌}
use Rattle.std.specs.List.{flat_map}
use Rattle.mx_count.specs.Sheets.{figures, heading, last_row}
use Rattle.mx_count.specs.declared.tally.Tally.{Tally}
use Rattle.mx_object.specs.Rows.{label_text, tetra_row}
use Rattle.mx_object.specs.declared.counting.ObjectSheet.{ObjectSheet}
use Rattle.mx_object.specs.declared.counting.TetraCount.{TetraCount}
use Rattle.mx_object.specs.declared.labels.Label.{Label}
use Rattle.mx_object.specs.declared.tetras.ListedTetra.{ListedTetra}

-- figures with a text, if there were any steps
abbrev pub figured : Tally → List ℕ → List ℕ
figured y text = if y.times == 0 then [] else figures y ++ text

-- the labels, each after a blank
abbrev pub labels_text : List Label → List ℕ
labels_text labels = flat_map (λ l. codes " " ++ label_text l) labels

abbrev pub part_row : List Label → Option Tally → List ℕ
part_row labels None = []
part_row labels (Some y) = figured y (labels_text labels ++ codes "\n")

-- a tetra after its figures
unfoldable pub tetra_line : ListedTetra → List ℕ
tetra_line t = codes "  " ++ tetra_row t

abbrev pub count_rows : ListedTetra → TetraCount → List ℕ
count_rows t c = part_row t.labels c.part ++ figured c.tally (tetra_line t)

-- the first count, where there is one for each tetra
abbrev pub first_count : List TetraCount → TetraCount
first_count [] = record { tally = record { times = 0; away = 0; oops = 0; mems = 0 }; part = None }
first_count (c ∷ counts) = c

-- the rows of tetras with their counts
unfoldable pub counted_rows : List ListedTetra → List TetraCount → List ℕ
counted_rows [] counts = []
counted_rows (t ∷ tetras) counts = count_rows t (first_count counts) ++ counted_rows tetras (drop 1 counts)

abbrev pub elsewhere_row : Tally → List ℕ
elsewhere_row y = figures y ++ codes "  elsewhere\n"

unfoldable pub sheet_text : ObjectSheet → List ℕ
sheet_text s = heading ++ counted_rows s.tetras s.counts ++ elsewhere_row s.elsewhere ++ last_row s.total

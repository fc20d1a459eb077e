-- A run of an object that was counted as JSON. The names of members are this program's own, as those of the lines of a source and of
-- the tetras of a listing; they are in byte order.
use Rattle.std.specs.Prelude.{ℕ, List, [], ◌∷◌, ◌++◌, drop, Option, None, Some, codes, decimal}
use Rattle.mx_count.specs.declared.tally.Tally.{Tally}
use Rattle.mx_json.specs.Json.{array, number_if, quoted, string}
use Rattle.mx_text.specs.Numbers.{hex_digits, hex_text}
use Rattle.mx_object.specs.Sheets.{first_count}
use Rattle.mx_object.specs.declared.counted.CountedObject.{CountedObject}
use Rattle.mx_object.specs.declared.counting.ObjectSheet.{ObjectSheet}
use Rattle.mx_object.specs.declared.counting.TetraCount.{TetraCount}
use Rattle.mx_object.specs.declared.labels.Label.{Label}
use Rattle.mx_object.specs.declared.tetras.ListedTetra.{ListedTetra}
use Rattle.face_count.specs.CountJson.{outcome_json, tally_json}

-- ---- a tetra

-- the beginning of an object that has an address, as `#` and 16 digits
unfoldable pub address_name : List ℕ
address_name = codes "{\"address\":"

unfoldable pub at_address : ℕ → List ℕ
at_address a = address_name ++ quoted (hex_text a)

-- a symbol whose value is an address of the tetra
unfoldable pub label_json : Label → List ℕ
label_json l = at_address l.address ++ codes ",\"name\":" ++ string l.name ++ codes "}"

-- what is counted of the part that begins with the tetra, if one does
unfoldable pub part_json : Option Tally → List ℕ
part_json None = codes "null"
part_json (Some y) = tally_json y

unfoldable pub tetra_front : ListedTetra → TetraCount → List ℕ
tetra_front t c =
    at_address t.address ++ codes ",\"away\":" ++ decimal c.tally.away ++ codes ",\"labels\":" ++ array label_json t.labels
    ++ codes ",\"line\":" ++ number_if t.line

unfoldable pub tetra_middle : TetraCount → List ℕ
tetra_middle c = codes ",\"mems\":" ++ decimal c.tally.mems ++ codes ",\"oops\":" ++ decimal c.tally.oops ++ codes ",\"part\":" ++ part_json c.part

unfoldable pub tetra_end : ListedTetra → TetraCount → List ℕ
tetra_end t c =
    codes ",\"tetra\":" ++ quoted (hex_digits 8 t.tetra) ++ codes ",\"text\":" ++ string t.text ++ codes ",\"times\":" ++ decimal c.tally.times
    ++ codes "}"

unfoldable pub tetra_json : ListedTetra → TetraCount → List ℕ
tetra_json t c = tetra_front t c ++ tetra_middle c ++ tetra_end t c

-- ---- the tetras with their counts

unfoldable pub more_tetras : List ListedTetra → List TetraCount → List ℕ
more_tetras [] counts = []
more_tetras (t ∷ tetras) counts = codes "," ++ tetra_json t (first_count counts) ++ more_tetras tetras (drop 1 counts)

unfoldable pub tetra_list : List ListedTetra → List TetraCount → List ℕ
tetra_list [] counts = codes "[]"
tetra_list (t ∷ tetras) counts = codes "[" ++ tetra_json t (first_count counts) ++ more_tetras tetras (drop 1 counts) ++ codes "]"

-- ---- the sheet, if there is one

unfoldable pub tetras_json : Option ObjectSheet → List ℕ
tetras_json None = codes "null"
tetras_json (Some sheet) = tetra_list sheet.tetras sheet.counts

-- the figures of the steps elsewhere, and those of all steps
unfoldable pub elsewhere_json : Option ObjectSheet → List ℕ
elsewhere_json None = codes "null"
elsewhere_json (Some sheet) = tally_json sheet.elsewhere

unfoldable pub total_json : Option ObjectSheet → List ℕ
total_json None = codes "null"
total_json (Some sheet) = tally_json sheet.total

-- ---- the whole

-- the output of the program is before it where a machine ran: so it begins at the beginning of a line
unfoldable pub line_front : Option ObjectSheet → List ℕ
line_front None = []
line_front (Some sheet) = codes "\n"

unfoldable pub elsewhere_name : List ℕ
elsewhere_name = codes "{\"elsewhere\":"

unfoldable pub object_head : CountedObject → List ℕ
object_head c = line_front c.sheet ++ elsewhere_name ++ elsewhere_json c.sheet

unfoldable pub object_front : CountedObject → List ℕ
object_front c = object_head c ++ codes ",\"outcome\":" ++ outcome_json c.outcome

unfoldable pub object_end : CountedObject → List ℕ
object_end c = codes ",\"tetras\":" ++ tetras_json c.sheet ++ codes ",\"total\":" ++ total_json c.sheet ++ codes "}\n"

unfoldable pub object_json : CountedObject → List ℕ
object_json c = object_front c ++ object_end c

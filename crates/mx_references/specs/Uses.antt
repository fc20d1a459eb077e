-- Where a name is defined and used, and how it is marked. (Language Server Protocol, "Goto Definition Request", "Find References Request",
-- "Document Highlights Request", "Prepare Rename Request".)
use Rattle.std.specs.Prelude.{ℕ, ◌&&◌, ◌||◌, not, Bool, true, false, List, [], ◌∷◌, ◌++◌, length, Option, None, Some, codes, if◌then◌else◌}
use Rattle.std.specs.List.{flat_map}
use Rattle.mx_json.specs.Json.{array}
use Rattle.mx_line.specs.Lines.{lines_of}
use Rattle.mx_marks.specs.Mending.{line_text}
use Rattle.mx_occurrences.specs.Occurrences.{definition_of, is_same, occurrence_at, occurrences_of}
use Rattle.mx_occurrences.specs.declared.occurrence.Named.{Named}
use Rattle.mx_occurrences.specs.declared.occurrence.Occurrence.{Occurrence}
use Rattle.mx_wire.specs.Ranges.{end_of, location, range}

-- ---- a name

abbrev pub range_in : List ℕ → Occurrence → List ℕ
range_in line o = range o.line line o.from (end_of line o.from (length o.text))

abbrev pub range_of : List ℕ → Occurrence → List ℕ
range_of source o = range_in (line_text o.line (lines_of source)) o

abbrev pub location_of : List ℕ → List ℕ → Occurrence → List ℕ
location_of uri source o = location uri (range_of source o)

abbrev pub range_if : List ℕ → Option Occurrence → List ℕ
range_if source None = codes "null"
range_if source (Some o) = range_of source o

abbrev pub name_range : ℕ → ℕ → List ℕ → List ℕ
name_range line place source = range_if source (occurrence_at (occurrences_of source) line place)

-- ---- its label

abbrev pub location_if : List ℕ → List ℕ → Option Occurrence → List ℕ
location_if uri source None = codes "null"
location_if uri source (Some o) = location_of uri source o

abbrev pub label_of : List Occurrence → Option Occurrence → Option Occurrence
label_of names None = None
label_of names (Some o) = definition_of names o.named

abbrev pub definition_in : List ℕ → List ℕ → ℕ → ℕ → List Occurrence → List ℕ
definition_in uri source line place names = location_if uri source (label_of names (occurrence_at names line place))

abbrev pub definition : List ℕ → ℕ → ℕ → List ℕ → List ℕ
definition uri line place source = definition_in uri source line place (occurrences_of source)

-- ---- its uses

-- those that name the same, with labels or without
abbrev pub is_meant : Named → Bool → Occurrence → Bool
is_meant named has_labels o = is_same named o.named && (has_labels || not o.is_label)

abbrev pub use_if : List ℕ → List ℕ → Named → Bool → Occurrence → List (List ℕ)
use_if uri source named has_labels o = if is_meant named has_labels o then location_of uri source o ∷ [] else []

abbrev pub uses : List ℕ → List ℕ → Bool → List Occurrence → Option Occurrence → List (List ℕ)
uses uri source has_labels names None = []
uses uri source has_labels names (Some o) = flat_map (use_if uri source o.named has_labels) names

abbrev pub references_in : List ℕ → List ℕ → ℕ → ℕ → Bool → List Occurrence → List ℕ
references_in uri source line place has_labels names = array (λ value. value) (uses uri source has_labels names (occurrence_at names line place))

abbrev pub references : List ℕ → ℕ → ℕ → Bool → List ℕ → List ℕ
references uri line place has_labels source = references_in uri source line place has_labels (occurrences_of source)

-- ---- its marks

-- a label is written, and another name is read
unfoldable pub mark_end : Bool → List ℕ
mark_end true = codes ",\"kind\":3}"
mark_end false = codes ",\"kind\":2}"

unfoldable pub mark_of : List ℕ → Occurrence → List ℕ
mark_of source o = codes "{\"range\":" ++ range_of source o ++ mark_end o.is_label

abbrev pub mark_if : List ℕ → Named → Occurrence → List (List ℕ)
mark_if source named o = if is_same named o.named then mark_of source o ∷ [] else []

abbrev pub marks : List ℕ → List Occurrence → Option Occurrence → List (List ℕ)
marks source names None = []
marks source names (Some o) = flat_map (mark_if source o.named) names

abbrev pub highlights_in : List ℕ → ℕ → ℕ → List Occurrence → List ℕ
highlights_in source line place names = array (λ value. value) (marks source names (occurrence_at names line place))

abbrev pub highlights : ℕ → ℕ → List ℕ → List ℕ
highlights line place source = highlights_in source line place (occurrences_of source)

-- The listing of an object as a text: the labels of a tetra, a row for each, and then its row, with its address, its bytes, its line
-- if that is known, and its instruction; and in the end the symbols. The form of the rows is this program's own.
use Rattle.std.specs.Prelude.{ℕ, ◌-◌, ◌%◌, ◌==◌, List, [], ◌∷◌, ◌++◌, length, map, take, Option, None, Some, if◌then◌else◌, codes, decimal}
use Rattle.std.specs.List.{flat_map}
use Rattle.mx_text.specs.Numbers.{hex_digits, hex_text}
use Rattle.mx_type.specs.Lines.{ended, name_byte, symbol_line}
use Rattle.mx_object.specs.declared.labels.Label.{Label}
use Rattle.mx_object.specs.declared.labels.Place.{Place}
use Rattle.mx_object.specs.declared.tetras.FoundTetra.{FoundTetra}
use Rattle.mx_object.specs.declared.tetras.ListedTetra.{ListedTetra}
use Rattle.mx_object.specs.declared.view.ListedObject.{ListedObject}

-- ---- labels

-- a complete name without the colon that it begins with
abbrev pub short_name : List ℕ → List ℕ
short_name [] = []
short_name (c ∷ name) = if c == 58 then name else c ∷ name

abbrev pub shown_name : List ℕ → List ℕ
shown_name name = map name_byte (short_name name)

-- the byte of a tetra that a label has, unless it is the first one
abbrev pub byte_text : ℕ → List ℕ
byte_text k = if k == 0 then [] else codes " byte " ++ decimal k

abbrev pub label_text : Label → List ℕ
label_text l = shown_name l.name ++ codes ":" ++ byte_text (l.address % 4)

abbrev pub label_row : Label → List ℕ
label_row l = label_text l ++ codes "\n"

-- ---- tetras

-- the number of a line, which is filled up with blanks on the left to five places
abbrev pub padded : List ℕ → List ℕ
padded digits = take (5 - length digits) (codes "     ") ++ digits

abbrev pub line_text : Option ℕ → List ℕ
line_text None = []
line_text (Some line) = padded (decimal line) ++ codes ": "

abbrev pub tetra_text : ListedTetra → List ℕ
tetra_text t = hex_text t.address ++ codes ": " ++ hex_digits 8 t.tetra ++ codes "  " ++ line_text t.line ++ t.text

abbrev pub tetra_row : ListedTetra → List ℕ
tetra_row t = tetra_text t ++ codes "\n"

abbrev pub rows_of : ListedTetra → List ℕ
rows_of t = flat_map label_row t.labels ++ tetra_row t

-- ---- the whole

abbrev pub listing_of : ListedObject → List ℕ
listing_of l = flat_map rows_of l.tetras ++ codes "\n" ++ flat_map (λ s. ended (symbol_line s)) l.symbols

-- ---- the tetra that holds an address

-- how many bytes after a symbol an address is
abbrev pub offset_text : ℕ → List ℕ
offset_text n = if n == 0 then [] else codes "+" ++ decimal n

abbrev pub place_row : Option Place → List ℕ
place_row None = []
place_row (Some p) = shown_name p.name ++ offset_text p.offset ++ codes ":\n"

abbrev pub found_row : Option FoundTetra → List ℕ
found_row None = []
found_row (Some f) = place_row f.place ++ tetra_row f.tetra

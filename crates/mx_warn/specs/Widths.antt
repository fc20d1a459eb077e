-- A load or store of an octa at a label of wydes or tetras.
use Rattle.std.specs.Prelude.{ℕ, ◌&&◌, ◌||◌, List, [], ◌∷◌, Bool, false, codes, if◌then◌else◌, Option, None, Some}
use Rattle.std.specs.List.{find, list_any}
use Rattle.std.specs.Option.{option_map}
use Rattle.std.specs.Str.{bytes_eq}
use Rattle.mx_slips.specs.declared.pieces.Piece.{Piece}
use Rattle.mx_slips.specs.declared.sources.SourceLine.{SourceLine}
use Rattle.mx_slips.specs.declared.sources.Statement.{Statement}
use Rattle.mx_slips.specs.declared.tokens.Token.{Token}
use Rattle.mx_slips.specs.declared.marks.Mark.{Mark}
use Rattle.mx_slips.specs.Marks.{line_number, mark_of}

abbrev pub is_octa_access : List ℕ → Bool
is_octa_access op =
    bytes_eq op (codes "LDO") || bytes_eq op (codes "LDOU") || bytes_eq op (codes "STO") || bytes_eq op (codes "STOU")

abbrev pub is_narrow : List ℕ → Bool
is_narrow op = bytes_eq op (codes "WYDE") || bytes_eq op (codes "TETRA")

abbrev pub is_name : List ℕ → Option Piece → Bool
is_name name None = false
is_name name (Some label) = bytes_eq name label.text

abbrev pub labels_narrow : List ℕ → Statement → Bool
labels_narrow name s = is_narrow s.op.text && is_name name s.label

abbrev pub line_narrow : List ℕ → SourceLine → Bool
line_narrow name line = list_any (labels_narrow name) line.statements

-- the first line that has such a label
abbrev pub narrow_line : List SourceLine → List ℕ → Option ℕ
narrow_line lines name = option_map line_number (find (line_narrow name) lines)

abbrev pub mark_with : Token → Option ℕ → Option Mark
mark_with t None = None
mark_with t (Some number) = Some (mark_of t.from t.text number)

abbrev pub name_mark : List SourceLine → Token → Token → Option Mark
name_mark lines comma t = if bytes_eq comma.text (codes ",") then mark_with t (narrow_line lines t.text) else None

-- the last of two operands, if it is one token: the first is one token, or a $ and a number
abbrev pub second_mark : List SourceLine → List Token → Option Mark
second_mark lines (x ∷ comma ∷ t ∷ []) = name_mark lines comma t
second_mark lines (dollar ∷ x ∷ comma ∷ t ∷ []) = name_mark lines comma t
second_mark lines tokens = None

unfoldable pub narrow_label : List SourceLine → Statement → Option Mark
narrow_label lines s = if is_octa_access s.op.text then second_mark lines s.tokens else None

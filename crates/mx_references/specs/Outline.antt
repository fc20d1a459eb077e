-- The labels of a text as its outline. (Language Server Protocol, "Document Symbols Request".)
use Rattle.std.specs.Prelude.{ℕ, Bool, false, List, [], ◌∷◌, ◌++◌, Option, None, Some, codes, if◌then◌else◌}
use Rattle.std.specs.List.{flat_map}
use Rattle.mx_json.specs.Json.{array, string}
use Rattle.mx_line.specs.Lines.{lines_of}
use Rattle.mx_marks.specs.Marks.{operation_at}
use Rattle.mx_marks.specs.Mending.{line_text}
use Rattle.mx_occurrences.specs.Occurrences.{occurrences_of}
use Rattle.mx_occurrences.specs.declared.occurrence.Named.{Named}
use Rattle.mx_occurrences.specs.declared.occurrence.Named.TheVariants.{Symbol, Local}
use Rattle.mx_occurrences.specs.declared.occurrence.Occurrence.{Occurrence}
use Rattle.mx_ops.specs.Opcodes.{operation_of}
use Rattle.mx_ops.specs.declared.op.Op.{Op}
use Rattle.mx_ops.specs.declared.op.Op.TheVariants.{Pseudo as PseudoOp}
use Rattle.mx_ops.specs.declared.op.Pseudo.TheVariants as pseudo
use Rattle.mx_references.specs.Uses.{range_of}
use Rattle.mx_wire.specs.Ranges.{line_range}

-- IS makes a constant, the other pseudo-operations make variables, and instructions make functions
unfoldable pub kind_of : Option Op → List ℕ
kind_of (Some (PseudoOp pseudo.Is)) = codes "14"
kind_of (Some (PseudoOp p)) = codes "13"
kind_of op = codes "12"

unfoldable pub selection_name : List ℕ
selection_name = codes ",\"selectionRange\":"

abbrev pub label_in : List ℕ → List ℕ → Occurrence → List ℕ
label_in source line o =
    codes "{\"name\":" ++ string o.text ++ codes ",\"kind\":" ++ kind_of (operation_of (operation_at line o.from))
    ++ codes ",\"range\":" ++ line_range o.line line ++ selection_name ++ range_of source o ++ codes "}"

unfoldable pub label_text : List ℕ → Occurrence → List ℕ
label_text source o = label_in source (line_text o.line (lines_of source)) o

abbrev pub is_symbol : Named → Bool → Bool
is_symbol (Symbol name) is_label = is_label
is_symbol (Local d n) is_label = false

abbrev pub is_symbol_label : Occurrence → Bool
is_symbol_label o = is_symbol o.named o.is_label

abbrev pub label_if : List ℕ → Occurrence → List (List ℕ)
label_if source o = if is_symbol_label o then label_text source o ∷ [] else []

abbrev pub outline : List ℕ → List ℕ
outline source = array (λ value. value) (flat_map (label_if source) (occurrences_of source))

-- The lines of a text in their columns: label, operation, operands and comment. What is answered is an edit for each line whose layout
-- differs, where the program stays as it is. (Language Server Protocol, "Document Formatting Request".)
use Rattle.std.specs.Prelude.{ℕ, ◌+◌, ◌-◌, ◌==◌, ◌||◌, nat_lt, Bool, List, [], ◌∷◌, ◌++◌, length, take, replicate, Option, None, Some, Result, Ok, codes, if◌then◌else◌}
use Rattle.std.specs.List.{flat_map}
use Rattle.std.specs.Str.{bytes_eq}
use Rattle.mx_json.specs.Json.{array, string}
use Rattle.mx_line.specs.Bytes.{past}
use Rattle.mx_line.specs.Cutting.{cuts_from}
use Rattle.mx_line.specs.Lines.{lines_of}
use Rattle.mx_line.specs.declared.cutter.Cut.{Cut}
use Rattle.mx_line.specs.declared.faults.LineFault.{LineFault}
use Rattle.mx_line.specs.declared.spans.Span.{Span}
use Rattle.mx_wire.specs.Ranges.{line_range}
use Rattle.mx_changes.specs.Changes.{IsChecked, IsDone, next, part}
use Rattle.mx_changes.specs.declared.renaming.Change.{Change}

-- ---- a line

-- a blank or a tab; or a carriage return, at the end of a line
abbrev pub is_gap : ℕ → Bool
is_gap b = b == 32 || b == 9

abbrev pub is_end : ℕ → Bool
is_end b = is_gap b || b == 13

-- how many bytes a text has up to its last one that is no end
unfoldable pub end_from : ℕ → ℕ → List ℕ → ℕ
end_from place end [] = end
end_from place end (b ∷ bs) = end_from (place + 1) (if is_end b then end else place + 1) bs

abbrev pub without_end : List ℕ → List ℕ
without_end text = take (end_from 0 0 text) text

-- what follows the operands, without the blanks around it
abbrev pub comment_of : List ℕ → Cut → List ℕ
comment_of line cut = without_end (past is_gap (part line cut.operands.to (length line)))

abbrev pub label_of : List ℕ → Option Span → List ℕ
label_of line None = []
label_of line (Some label) = part line label.from label.to

-- how many blanks lead from one column to another, at least one
abbrev pub gap : ℕ → ℕ → ℕ
gap from to = if nat_lt from to then to - from else 1

-- a text with a field at a column, if the field is not empty
abbrev pub with_field : ℕ → List ℕ → List ℕ → List ℕ
with_field column [] text = text
with_field column (b ∷ bs) text = text ++ replicate (gap (length text) column) 32 ++ (b ∷ bs)

-- the operation is at column 8, the operands at 14, and the comment at 30
unfoldable pub fields : List ℕ → Cut → List ℕ
fields line cut =
    with_field 30 (comment_of line cut)
    (with_field 14 (part line cut.operands.from cut.operands.to)
    (with_field 8 (part line cut.op.from cut.op.to) (label_of line cut.label)))

-- a line that has not one statement stays as it is
abbrev pub laid_by : List ℕ → List (Result Cut LineFault) → List ℕ
laid_by line (Ok cut ∷ []) = fields line cut
laid_by line cuts = line

abbrev pub laid_line : List ℕ → List ℕ
laid_line line = laid_by line (cuts_from line 0)

-- ---- the lines

abbrev pub with_newline : List ℕ → List ℕ
with_newline line = laid_line line ++ codes "\n"

abbrev pub laid_text : List ℕ → List ℕ
laid_text source = flat_map with_newline (lines_of source)

-- ---- what is answered

unfoldable pub line_edit : ℕ → List ℕ → List ℕ → List ℕ
line_edit number line laid = codes "{\"range\":" ++ line_range number line ++ codes ",\"newText\":" ++ string laid ++ codes "}"

abbrev pub edit_if : ℕ → List ℕ → List ℕ → List (List ℕ)
edit_if number line laid = if bytes_eq laid line then [] else line_edit number line laid ∷ []

-- those of lines, of which the first has this number
unfoldable pub edits_from : ℕ → List (List ℕ) → List (List ℕ)
edits_from number [] = []
edits_from number (line ∷ later) = edit_if number line (laid_line line) ++ edits_from (next number) later

-- without an edit nothing is compared
abbrev pub FormatsBy : List ℕ → List (List ℕ) → Change → Type 0
FormatsBy source [] r = IsDone (codes "[]") r
FormatsBy source (edit ∷ edits) r = IsChecked source (laid_text source) (array (λ value. value) (edit ∷ edits)) r

abbrev pub Formats : List ℕ → Change → Type 0
Formats source r = FormatsBy source (edits_from 1 (lines_of source)) r

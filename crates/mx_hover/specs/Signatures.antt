-- How the operation at a place is written: the second line of what it means, from the operation on up to the end of the operands.
-- (Language Server Protocol, "Signature Help Request".)
use Rattle.std.specs.Prelude.{ℕ, ◌==◌, ◌&&◌, nat_lt, List, ◌∷◌, ◌++◌, Option, None, Some, codes, if◌then◌else◌}
use Rattle.mx_json.specs.Json.{string}
use Rattle.mx_line.specs.Lines.{lines_of}
use Rattle.mx_marks.specs.Mending.{line_text}
use Rattle.mx_ops.specs.Opcodes.{operation_of}
use Rattle.mx_ops.specs.declared.op.Op.{Op}
use Rattle.mx_slips.specs.Sources.{unloaded_lines}
use Rattle.mx_slips.specs.declared.sources.Statement.{Statement}
use Rattle.mx_hover.specs.Meanings.{meaning}
use Rattle.mx_hover.specs.Statements.{statement_at}

-- a line without the two blanks at its front
abbrev pub without_indent : List ℕ → List ℕ
without_indent (a ∷ b ∷ form) = if a == 32 && b == 32 then form else a ∷ b ∷ form
without_indent line = line

-- how an operation is written, with its operands
abbrev pub form_of : List ℕ → List ℕ
form_of name = without_indent (line_text 2 (lines_of (meaning name)))

unfoldable pub form_shown : List ℕ → List ℕ
form_shown form = codes "{\"signatures\":[{\"label\":" ++ string form ++ codes "}],\"activeSignature\":0}"

-- of a name that is one of an operation
abbrev pub shown_if : List ℕ → Option Op → List ℕ
shown_if name None = codes "null"
shown_if name (Some op) = form_shown (form_of name)

abbrev pub statement_form : ℕ → Option Statement → List ℕ
statement_form from None = codes "null"
statement_form from (Some s) = if nat_lt from s.op.from then codes "null" else shown_if s.op.text (operation_of s.op.text)

-- at a place of line number
abbrev pub signature : ℕ → ℕ → List ℕ → List ℕ
signature number from source = statement_form from (statement_at (unloaded_lines source) number from)

-- The tetras that a program loads, each with the line that it came from. Of a source, a tetra is an instruction where its line has
-- one; of an object, which does not tell, where it is before the data segment.
use Rattle.std.specs.Prelude.{ℕ, ◌^◌, Bool, true, false, nat_lt, List, map, Option, None, Some, unwrap_or}
use Rattle.std.specs.List.{list_any}
use Rattle.mx_ops.specs.Opcodes.{operation_of}
use Rattle.mx_ops.specs.declared.op.Op.{Op}
use Rattle.mx_ops.specs.declared.op.Op.TheVariants.{Pseudo}
use Rattle.mx_view.specs.declared.cells.Cell.{Cell}
use Rattle.mx_slips.specs.declared.sources.SourceLine.{SourceLine}
use Rattle.mx_slips.specs.declared.sources.Statement.{Statement}
use Rattle.mx_object.specs.declared.tetras.ListedTetra.{ListedTetra}
use Rattle.mx_book.specs.declared.loads.Load.{Load}

-- ---- sources

-- an operation that is no pseudo-operation
abbrev pub makes_code : Option Op → Bool
makes_code None = false
makes_code (Some (Pseudo p)) = false
makes_code (Some op) = true

abbrev pub is_instruction : Statement → Bool
is_instruction s = makes_code (operation_of s.op.text)

abbrev pub has_code : SourceLine → Bool
has_code line = list_any is_instruction line.statements

abbrev pub load_with : ℕ → Bool → Cell → Load
load_with number is_code c = record { address = c.address; line = number; is_code = is_code }

abbrev pub line_loads : SourceLine → List Load
line_loads line = map (load_with line.number (has_code line)) line.cells

abbrev pub text_of : SourceLine → List ℕ
text_of line = line.text

-- ---- objects

abbrev pub load_of : ListedTetra → Load
load_of t = record { address = t.address; line = unwrap_or t.line 0; is_code = nat_lt t.address (2 ^ 61) }

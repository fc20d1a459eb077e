-- What a line loads, as an editor is told of it: each tetra with its address; one of an instruction as its text with what it costs, too.
use Rattle.std.specs.Prelude.{ℕ, ◌==◌, Bool, true, false, List, [], ◌++◌, take, Option, None, Some, codes, if◌then◌else◌}
use Rattle.std.specs.List.{flat_map}
use Rattle.mx_costs.specs.Costs.{mems, oops}
use Rattle.mx_explain.specs.Facts.{mems_text, oops_text}
use Rattle.mx_ops.specs.declared.op.Op.{Op}
use Rattle.mx_ops.specs.declared.op.Op.TheVariants.{Pseudo}
use Rattle.mx_text.specs.Instructions.{field_code, instruction_text}
use Rattle.mx_text.specs.Numbers.{hex_digits, hex_text}
use Rattle.mx_view.specs.declared.cells.Cell.{Cell}
use Rattle.mx_view.specs.declared.lines.ListedLine.{ListedLine}

-- the υ and μ of a step that goes on to the next tetra
unfoldable pub cost : ℕ → List ℕ
cost code = codes "  " ++ oops_text (oops code false) ++ mems_text (mems code)

-- an operation that makes instructions
abbrev pub is_instruction : Option Op → Bool
is_instruction None = false
is_instruction (Some (Pseudo p)) = false
is_instruction (Some op) = true

unfoldable pub instruction_of : Cell → List ℕ
instruction_of c = codes "  " ++ instruction_text c.tetra c.address ++ cost (field_code c.tetra)

abbrev pub instruction_if : Bool → Cell → List ℕ
instruction_if true c = instruction_of c
instruction_if false c = []

-- its address, its bytes, and its instruction
unfoldable pub cell_text : Bool → Cell → List ℕ
cell_text is_code c = hex_text c.address ++ codes ": " ++ hex_digits 8 c.tetra ++ instruction_if is_code c ++ codes "\n"

-- the first 16 tetras of a line, if it has this number
abbrev pub line_loads : Bool → ℕ → ListedLine → List ℕ
line_loads is_code number l = if l.number == number then flat_map (cell_text is_code) (take 16 l.cells) else []

-- what line number loads, among the lines of a listing
abbrev pub loads : Bool → ℕ → List ListedLine → List ℕ
loads is_code number lines = flat_map (line_loads is_code number) lines

-- How operations are written: X, Y and Z are the fields of the instruction as numbers, YZ and XYZ several of them as one number,
-- $X to $Z the registers of these numbers, $Z|Z one of both; a is an address that an instruction goes to, A one in memory, and v a
-- value.
use Rattle.std.specs.Prelude.{ℕ, ◌+◌, ◌%◌, Bool, List, [], ◌∷◌, Option, None, Some, codes, if◌then◌else◌}
use Rattle.mx_ops.specs.Opcodes.{opcode_kind, is_immediate}
use Rattle.mx_ops.specs.Shapes.{shapes_of}
use Rattle.mx_ops.specs.declared.op.Op.{Op}
use Rattle.mx_ops.specs.declared.op.Op.TheVariants.{Pseudo as PseudoOp, Code, Lda, Set}
use Rattle.mx_ops.specs.declared.op.Pseudo.{Pseudo}
use Rattle.mx_ops.specs.declared.op.Pseudo.TheVariants as pseudo
use Rattle.mx_ops.specs.declared.op.Shape.{Shape}
use Rattle.mx_ops.specs.declared.op.Shape.TheVariants.{Three, Regs, Round, Neg, Rel, Mem, MemPure, Wyde, Jump, Put, Get, Pop, One, Save, Unsave, Free}

-- the operands of a shape, where the code after a code of it may have Z as a number
abbrev pub shape_operands : Shape → Bool → List ℕ
shape_operands Three has_immediate = codes "$X,$Y,$Z|Z"
shape_operands Regs has_immediate = codes "$X,$Y,$Z"
shape_operands Round has_immediate = if has_immediate then codes "$X,$Z|Z or $X,Y,$Z|Z" else codes "$X,$Z or $X,Y,$Z"
shape_operands Neg has_immediate = codes "$X,$Z|Z or $X,Y,$Z|Z"
shape_operands Rel has_immediate = codes "$X,a"
shape_operands Mem has_immediate = codes "$X,$Y,$Z|Z or $X,$Y or $X,A"
shape_operands MemPure has_immediate = codes "X,$Y,$Z|Z or X,$Y or X,A"
shape_operands Wyde has_immediate = codes "$X,YZ"
shape_operands Jump has_immediate = codes "a"
shape_operands Put has_immediate = codes "X,$Z|Z"
shape_operands Get has_immediate = codes "$X,Z"
shape_operands Pop has_immediate = codes "X,YZ"
shape_operands One has_immediate = codes "XYZ"
shape_operands Save has_immediate = codes "$X,0"
shape_operands Unsave has_immediate = codes "$Z"
shape_operands Free has_immediate = codes "X,Y,Z or X,YZ or XYZ"

-- the operands of the shapes that the table gives a code, which are one shape
abbrev pub code_operands : List Shape → Bool → List ℕ
code_operands [] has_immediate = []
code_operands (shape ∷ shapes) has_immediate = shape_operands shape has_immediate

-- the operands of a pseudo-operation
abbrev pub pseudo_operands : Pseudo → List ℕ
pseudo_operands pseudo.Is = codes "v"
pseudo_operands pseudo.Loc = codes "v"
pseudo_operands pseudo.Greg = codes "v"
pseudo_operands pseudo.Prefix = codes "name"
pseudo_operands pseudo.Local = codes "$X"
pseudo_operands data_operation = codes "v,v,.."

-- whether the code after a code has Z as a number
abbrev pub has_immediate : ℕ → Bool
has_immediate code = is_immediate (opcode_kind ((code + 1) % 256))

-- the operands of an operation, if there is one
abbrev pub operands : Option Op → List ℕ
operands None = []
operands (Some (PseudoOp pseudo)) = pseudo_operands pseudo
operands (Some Lda) = codes "$X,$Y,$Z|Z or $X,$Y or $X,A"
operands (Some Set) = codes "$X,$Y or $X,YZ"
operands (Some (Code code)) = code_operands (shapes_of code) (has_immediate code)

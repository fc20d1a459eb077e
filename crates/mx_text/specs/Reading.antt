-- What a text tells of its instruction.
use Rattle.std.specs.Prelude.{ℕ, ◌-◌, ◌*◌, ◌^◌, Bool, true, false, ◌||◌, if◌then◌else◌}
use Rattle.mx_ops.specs.Opcodes.{opcode_kind, is_immediate, is_backward}
use Rattle.mx_ops.specs.declared.op.Shape.{Shape}
use Rattle.mx_ops.specs.declared.op.Shape.TheVariants.{Three, Regs, Round, Neg, Rel, Mem, MemPure, Wyde, Jump, Put, Get, Pop, One, Save, Unsave, Free}
use Rattle.mx_text.specs.Instructions.{field_code, field_y, shape}

-- the lowest code with the name of a code: the one before it, where it is a second code
abbrev pub lowest_code : ℕ → ℕ
lowest_code code = if is_immediate (opcode_kind code) || is_backward (opcode_kind code) then code - 1 else code

-- whether a shape has a Y that has to be 0 and is not shown
abbrev pub hides_y : Shape → Bool
hides_y Put = true
hides_y Get = true
hides_y Save = true
hides_y Unsave = true
hides_y Three = false
hides_y Regs = false
hides_y Round = false
hides_y Neg = false
hides_y Rel = false
hides_y Mem = false
hides_y MemPure = false
hides_y Wyde = false
hides_y Jump = false
hides_y Pop = false
hides_y One = false
hides_y Free = false

-- a tetra without the Y that is not shown
abbrev pub shown_part : ℕ → ℕ
shown_part word = if hides_y (shape (field_code word)) then word - 2 ^ 8 * field_y word else word

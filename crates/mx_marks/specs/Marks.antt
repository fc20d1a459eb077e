-- Which text of a line is marked under a fault: within the field that the fault is about, the part that it is about, where it is found. A
-- rule of this program.
use Rattle.std.specs.Prelude.{ℕ, ◌+◌, ◌-◌, ◌==◌, Bool, true, false, if◌then◌else◌, List, [], ◌∷◌, length, take, drop, Option, None, Some}
use Rattle.mx_ops.specs.declared.op.Op.{Op}
use Rattle.mx_ops.specs.declared.op.Op.TheVariants.{Pseudo as PseudoOp, Code, Lda, Set}
use Rattle.mx_ops.specs.declared.op.Pseudo.{Pseudo}
use Rattle.mx_ops.specs.declared.op.Pseudo.TheVariants as pseudo
use Rattle.mx_ops.specs.declared.op.Shape.{Shape}
use Rattle.mx_ops.specs.declared.op.Shape.TheVariants as shape
use Rattle.mx_ops.specs.Opcodes.{operation_of}
use Rattle.mx_ops.specs.Shapes.{shapes_of}
use Rattle.mx_marks.specs.declared.fields.Field.{Field}
use Rattle.mx_marks.specs.declared.fields.Field.TheVariants.{Operands, Operation}
use Rattle.mx_marks.specs.declared.marks.Mark.{Mark}
use Rattle.mx_marks.specs.declared.rooms.Room.{Room}
use Rattle.mx_marks.specs.declared.rooms.Room.TheVariants.{Byte, Wyde, Tetra, DataByte, DataWyde}
use Rattle.mx_marks.specs.declared.tokens.Wanted.{Wanted}
use Rattle.mx_marks.specs.declared.tokens.Wanted.TheVariants.{Unknown, Ahead, Above, Address, Register, Sum}
use Rattle.mx_marks.specs.Fields.{Line, from_field, operands_at, word}
use Rattle.mx_marks.specs.Syntax.{Scan, scan}
use Rattle.mx_marks.specs.Tokens.{from_part, marked_length, number_part}

-- ---- how much room an operation has for a number

abbrev pub shape_room : Shape → Room
shape_room shape.Wyde = Wyde
shape_room other = Byte

abbrev pub first_room : List Shape → Room
first_room [] = Byte
first_room (s ∷ shapes) = shape_room s

abbrev pub pseudo_room : Pseudo → Room
pseudo_room pseudo.Byte = DataByte
pseudo_room pseudo.Wyde = DataWyde
pseudo_room pseudo.Tetra = Tetra
pseudo_room other = Byte

abbrev pub room_of : Option Op → Room
room_of None = Byte
room_of (Some (PseudoOp p)) = pseudo_room p
room_of (Some (Code code)) = first_room (shapes_of code)
room_of (Some Lda) = Byte
room_of (Some Set) = Wyde

abbrev pub limit_of : Room → ℕ
limit_of Byte = 255
limit_of DataByte = 255
limit_of Wyde = 65535
limit_of DataWyde = 65535
limit_of Tetra = 4294967295

-- the operation of the statement at a place of a line
abbrev pub operation_at : Line → ℕ → Line
operation_at line place = word (from_field Operation (drop place line))

abbrev pub room_at : Line → ℕ → Room
room_at line place = room_of (operation_of (operation_at line place))

-- ---- the part of the operands

-- the first part that is wanted of operands, and all that follows it
abbrev pub part_of : Wanted → List ℕ → ℕ → Line → Line
part_of kind source most operands = from_part (length operands) kind source most operands

-- where operands are no expressions; their last byte where they end too early
abbrev pub last_byte : Line → Line
last_byte operands = drop (length operands - 1) operands

abbrev pub stopped_at : Line → Scan → Line
stopped_at operands s = if length s.rest == 0 then (if s.wants then last_byte operands else []) else s.rest

-- a name without a value, or a local label
abbrev pub early_part : List ℕ → ℕ → Line → Line → Line
early_part source most operands [] = part_of Ahead source most operands
early_part source most operands (b ∷ bs) = b ∷ bs

-- a number that does not fit, or else a label of data, whose address does not fit into an instruction
abbrev pub fit_part : List ℕ → Room → Line → Line → Line
fit_part source Byte operands [] = part_of Address source 0 operands
fit_part source Wyde operands [] = part_of Address source 0 operands
fit_part source room operands part = part

-- From the part on that a fault with this number is about, in a line with this number; no text where none is found. 10 is Syntax,
-- 15 TwoRegisters, 17 Future, 21 RegisterNumber, 41 NotRegister, 43 Fit, 80 UndefinedSymbol and 81 UndefinedLocal.
abbrev pub faulty_part : ℕ → ℕ → List ℕ → Room → Line → Line
faulty_part fault number source room operands =
    if fault == 10 then stopped_at operands (scan operands)
    else if fault == 15 then part_of Sum source 0 operands
    else if fault == 17 then early_part source (number - 1) operands (part_of Unknown source (number - 1) operands)
    else if fault == 21 then part_of Register source 0 operands
    else if fault == 41 then number_part operands
    else if fault == 43 then fit_part source room operands (part_of (Above (limit_of room)) source 0 operands)
    else if fault == 80 then part_of Unknown source 4294967295 operands
    else if fault == 81 then part_of Ahead source 0 operands
    else []

-- ---- the mark

abbrev pub mark_at : ℕ → ℕ → Bool → Mark
mark_at from length is_part = record { from = from; length = length; is_part = is_part }

-- that of operands: their faulty part, or all of them
abbrev pub operands_mark : ℕ → Line → Line → Mark
operands_mark from operands [] = mark_at from (length operands) false
operands_mark from operands (b ∷ bs) = mark_at (from + (length operands - length (b ∷ bs))) (marked_length (b ∷ bs)) true

abbrev pub word_mark : Line → Line → Mark
word_mark line text = mark_at (length line - length text) (length (word text)) true

-- that of a fault with this number in a field of the statement at a place
abbrev pub field_mark : ℕ → ℕ → List ℕ → Line → Field → ℕ → Mark
field_mark fault number source line Operands place =
    operands_mark (length line - length (from_field Operands (drop place line))) (operands_at line place)
    (faulty_part fault number source (room_at line place) (operands_at line place))
field_mark fault number source line field place = word_mark line (from_field field (drop place line))

-- the text that is marked
abbrev pub marked_text : Line → Mark → Line
marked_text line m = take m.length (drop m.from line)

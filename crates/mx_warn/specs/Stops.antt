-- Instructions that a run does not get past: a jump to itself, and one on floating-point numbers, which this machine does not perform.
use Rattle.std.specs.Prelude.{ℕ, ◌==◌, ◌&&◌, ◌||◌, List, [], ◌∷◌, Bool, false, nat_le, codes, if◌then◌else◌, Option, None, Some}
use Rattle.std.specs.Str.{bytes_eq}
use Rattle.mx_ops.specs.Opcodes.{operation_of}
use Rattle.mx_ops.specs.declared.op.Op.{Op}
use Rattle.mx_ops.specs.declared.op.Op.TheVariants.{Code}
use Rattle.mx_slips.specs.declared.pieces.Piece.{Piece}
use Rattle.mx_slips.specs.declared.sources.Statement.{Statement}
use Rattle.mx_slips.specs.declared.tokens.Token.{Token}
use Rattle.mx_slips.specs.declared.marks.Mark.{Mark}
use Rattle.mx_slips.specs.Backslashes.{token_mark}
use Rattle.mx_slips.specs.Marks.{mark_of}

-- ---- a jump to itself

abbrev pub is_own : List ℕ → Option Piece → Bool
is_own text None = false
is_own text (Some label) = bytes_eq text label.text

-- by @, or by the label of the statement
abbrev pub is_itself : List ℕ → Option Piece → Bool
is_itself text label = bytes_eq text (codes "@") || is_own text label

abbrev pub target_mark : List Token → Option Piece → Option Mark
target_mark (t ∷ []) label = if is_itself t.text label then Some (token_mark t) else None
target_mark tokens label = None

unfoldable pub endless_jump : Statement → Option Mark
endless_jump s = if bytes_eq s.op.text (codes "JMP") then target_mark s.tokens s.label else None

-- ---- floating-point numbers

-- the codes of FCMP to FINT, LDSF and STSF
abbrev pub is_float_code : ℕ → Bool
is_float_code code =
    (nat_le 0x01 code && nat_le code 0x17) || code == 0x90 || code == 0x91 || code == 0xb0 || code == 0xb1

abbrev pub is_float : Option Op → Bool
is_float (Some (Code code)) = is_float_code code
is_float op = false

unfoldable pub float_instruction : Statement → Option Mark
float_instruction s = if is_float (operation_of s.op.text) then Some (mark_of s.op.from s.op.text 0) else None

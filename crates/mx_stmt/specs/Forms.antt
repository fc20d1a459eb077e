-- The forms of the operands of instructions, and the tetras that they give (MMIXware, "MMIX instructions"
-- and "MMIXAL"; TAOCP 1, Fascicle 1, section 1.3.1').
use Rattle.std.specs.Prelude.{ℕ, ◌+◌, ◌-◌, ◌*◌, ◌/◌, ◌%◌, ◌^◌, ◌==◌, not, ◌&&◌, nat_le, nat_lt, Bool, true, false, if◌then◌else◌, List, [], ◌∷◌, Option, None, Some, ok_or, Ok, Err}
use Rattle.std.specs.Result.{result_unwrap_or}
use Rattle.mx_word.specs.declared.symbols.Value.{Value}
use Rattle.mx_word.specs.declared.symbols.Value.TheVariants.{Pure, Reg}
use Rattle.mx_word.specs.declared.waits.WaitKind.{WaitKind}
use Rattle.mx_word.specs.declared.waits.WaitKind.TheVariants.{Near, Far}
use Rattle.mx_expr.specs.Tree.{Tree}
use Rattle.mx_ops.specs.declared.op.Shape.{Shape}
use Rattle.mx_ops.specs.declared.op.Shape.TheVariants.{Three, Regs, Round, Neg, Rel, Mem, MemPure, Wyde, Jump, Put, Get, Pop, One, Save, Unsave, Free}
use Rattle.mx_names.specs.declared.gregs.Base.{Base}
use Rattle.mx_names.specs.Gregs.{base_for}
use Rattle.mx_stmt.specs.declared.operands.RegisterOrByte.{RegisterOrByte}
use Rattle.mx_stmt.specs.declared.operands.RegisterOrByte.TheVariants.{Register, Byte}
use Rattle.mx_stmt.specs.declared.operands.Target.{Target}
use Rattle.mx_stmt.specs.declared.operands.Target.TheVariants as target
use Rattle.mx_stmt.specs.declared.forms.Tetra.{Tetra}
use Rattle.mx_stmt.specs.declared.faults.StmtFault.TheVariants.{Operands, NoBase, NotMultiple, TooFar}
use Rattle.mx_stmt.specs.Steps.{Answer, and_then}
use Rattle.mx_stmt.specs.Operands.{Known, Targets, operand_value, register_at, field_at, register_or_byte_at, number_below, target_at}

-- The tetra of a code with three bytes, with a byte and a wyde, or with 24 bits.
abbrev pub tetra_xyz : ℕ → ℕ → ℕ → ℕ → ℕ
tetra_xyz code x y z = code * 2 ^ 24 + x * 2 ^ 16 + y * 2 ^ 8 + z

abbrev pub tetra_wyde : ℕ → ℕ → ℕ → ℕ
tetra_wyde code x yz = code * 2 ^ 24 + x * 2 ^ 16 + yz

abbrev pub tetra_whole : ℕ → ℕ → ℕ
tetra_whole code xyz = code * 2 ^ 24 + xyz

-- an instruction with no reference
abbrev pub plain_tetra : ℕ → Answer Tetra
plain_tetra word = Ok (record { word = word; wait = None })

-- `$Z|n`: a register, or a byte with the second code
abbrev pub last_word : ℕ → ℕ → ℕ → RegisterOrByte → ℕ
last_word code x y (Register z) = tetra_xyz code x y z
last_word code x y (Byte n) = tetra_xyz (code + 1) x y n

abbrev pub last_form : Known → ℕ → ℕ → ℕ → Tree → Answer Tetra
last_form k code x y z = and_then (register_or_byte_at k z) (λ z. plain_tetra (last_word code x y z))

-- `$Z`
abbrev pub last_register : Known → ℕ → ℕ → ℕ → Tree → Answer Tetra
last_register k code x y z = and_then (register_at k z) (λ z. plain_tetra (tetra_xyz code x y z))

-- `$Y,$Z|n`
abbrev pub last_two : Known → ℕ → ℕ → Tree → Tree → Answer Tetra
last_two k code x y z = and_then (register_at k y) (λ y. last_form k code x y z)

-- the rounding mode of FLOT and its like, which take `$Z|n`, and of FIX and its like, which take `$Z`
abbrev pub takes_byte : ℕ → Bool
takes_byte code = nat_le 0x08 code && nat_le code 0x0f

abbrev pub rounded_last : Known → ℕ → ℕ → ℕ → Tree → Answer Tetra
rounded_last k code x y z = if takes_byte code then last_form k code x y z else last_register k code x y z

-- The address of a memory instruction: `$Y` means `$Y,0`, and a pure A for a base and the difference from it.
abbrev pub address_word : ℕ → ℕ → Base → ℕ
address_word code x base = tetra_xyz (code + 1) x base.reg base.above

abbrev pub address_of : Known → ℕ → ℕ → Value → Answer Tetra
address_of k code x (Reg y) = plain_tetra (tetra_xyz (code + 1) x y 0)
address_of k code x (Pure a) = and_then (ok_or (base_for k.gregs a) NoBase) (λ base. plain_tetra (address_word code x base))

abbrev pub address_form : Known → ℕ → ℕ → Tree → Answer Tetra
address_form k code x a = and_then (operand_value k a) (address_of k code x)

-- A relative address is (target - place)/4 over whole numbers. It is exact, forward below the reach, which is one more
-- than the largest number of the field, and backward at most the reach. A backward one has the second code, and the
-- reach is added to it. The head is the tetra with zero in the field.
abbrev pub near_reach : ℕ
near_reach = 2 ^ 16

abbrev pub far_reach : ℕ
far_reach = 2 ^ 24

abbrev pub forward_word : ℕ → ℕ → ℕ → Answer ℕ
forward_word head reach distance =
    if not (distance % 4 == 0) then Err NotMultiple
    else if nat_lt (distance / 4) reach then Ok (head + distance / 4)
    else Err TooFar

abbrev pub backward_word : ℕ → ℕ → ℕ → Answer ℕ
backward_word head reach distance =
    if not (distance % 4 == 0) then Err NotMultiple
    else if nat_le (distance / 4) reach then Ok (head + 2 ^ 24 + (reach - distance / 4))
    else Err TooFar

abbrev pub relative_word : ℕ → ℕ → ℕ → ℕ → Answer ℕ
relative_word head reach place target =
    if nat_le place target then forward_word head reach (target - place) else backward_word head reach (place - target)

-- the tetra of a future reference: zero is in the field where it has no target yet
abbrev pub future_word : ℕ → ℕ → ℕ → Option ℕ → ℕ
future_word head reach place None = head
future_word head reach place (Some target) = result_unwrap_or (relative_word head reach place target) head

abbrev pub relative_form : Targets → ℕ → ℕ → ℕ → WaitKind → Target → Answer Tetra
relative_form t head reach place kind (target.Known n) = and_then (relative_word head reach place n) plain_tetra
relative_form t head reach place kind (target.Future who) =
    Ok (record { word = future_word head reach place (t who); wait = Some (who, kind) })

-- `a` after `$X`, and `a` alone
abbrev pub branch_form : Targets → Known → ℕ → ℕ → Tree → Answer Tetra
branch_form t k code x a = and_then (target_at k a) (relative_form t (tetra_wyde code x 0) near_reach k.at Near)

abbrev pub jump_form : Targets → Known → ℕ → Tree → Answer Tetra
jump_form t k code a = and_then (target_at k a) (relative_form t (tetra_whole code 0) far_reach k.at Far)

-- `n` of 16 bits after X, and `n` of 24 bits alone
abbrev pub wyde_form : Known → ℕ → ℕ → Tree → Answer Tetra
wyde_form k code x n = and_then (field_at (2 ^ 16) k n) (λ n. plain_tetra (tetra_wyde code x n))

abbrev pub whole_form : Known → ℕ → Tree → Answer Tetra
whole_form k code n = and_then (field_at (2 ^ 24) k n) (λ n. plain_tetra (tetra_whole code n))

-- `n` of 8 bits as Z
abbrev pub byte_form : Known → ℕ → ℕ → Tree → Answer Tetra
byte_form k code x z = and_then (field_at 256 k z) (λ z. plain_tetra (tetra_xyz code x 0 z))

-- a byte operand that may be a register, as a number
abbrev pub byte_of : RegisterOrByte → ℕ
byte_of (Register r) = r
byte_of (Byte n) = n

abbrev pub free_byte : RegisterOrByte → Answer ℕ
free_byte value = Ok (byte_of value)

abbrev pub free_at : Known → Tree → Answer ℕ
free_at k e = and_then (register_or_byte_at k e) free_byte

abbrev pub free_form : Known → ℕ → Tree → Tree → Tree → Answer Tetra
free_form k code x y z = and_then (free_at k x) (λ x. and_then (free_at k y) (λ y. and_then (free_at k z) (λ z. plain_tetra (tetra_xyz code x y z))))

-- an operand that is a register, or pure and of 8 bits, before others
abbrev pub with_register : Known → Tree → (ℕ → Answer Tetra) → Answer Tetra
with_register k x next = and_then (register_at k x) next

abbrev pub with_byte : Known → Tree → (ℕ → Answer Tetra) → Answer Tetra
with_byte k x next = and_then (field_at 256 k x) next

-- whether a form of the shape has a second code
abbrev pub has_second : Shape → Bool
has_second Three = true
has_second Round = true
has_second Neg = true
has_second Rel = true
has_second Mem = true
has_second MemPure = true
has_second Jump = true
has_second Put = true
has_second shape = false

-- The forms of each shape. A number of operands that no form has is a fault.
abbrev pub form : Targets → Known → Shape → ℕ → List Tree → Answer Tetra
form t k Three code (x ∷ y ∷ z ∷ []) = with_register k x (λ x. last_two k code x y z)
form t k Regs code (x ∷ y ∷ z ∷ []) = with_register k x (λ x. with_register k y (λ y. last_register k code x y z))
form t k Round code (x ∷ z ∷ []) = with_register k x (λ x. rounded_last k code x 0 z)
form t k Round code (x ∷ y ∷ z ∷ []) = with_register k x (λ x. with_byte k y (λ y. rounded_last k code x y z))
form t k Neg code (x ∷ z ∷ []) = with_register k x (λ x. last_form k code x 0 z)
form t k Neg code (x ∷ y ∷ z ∷ []) = with_register k x (λ x. with_byte k y (λ y. last_form k code x y z))
form t k Rel code (x ∷ a ∷ []) = with_register k x (λ x. branch_form t k code x a)
form t k Mem code (x ∷ a ∷ []) = with_register k x (λ x. address_form k code x a)
form t k Mem code (x ∷ y ∷ z ∷ []) = with_register k x (λ x. last_two k code x y z)
form t k MemPure code (x ∷ a ∷ []) = with_byte k x (λ x. address_form k code x a)
form t k MemPure code (x ∷ y ∷ z ∷ []) = with_byte k x (λ x. last_two k code x y z)
form t k Wyde code (x ∷ n ∷ []) = with_register k x (λ x. wyde_form k code x n)
form t k Jump code (a ∷ []) = jump_form t k code a
form t k Put code (x ∷ z ∷ []) = with_byte k x (λ x. last_form k code x 0 z)
form t k Get code (x ∷ z ∷ []) = with_register k x (λ x. byte_form k code x z)
form t k Pop code (n ∷ []) = whole_form k code n
form t k Pop code (x ∷ n ∷ []) = with_byte k x (λ x. wyde_form k code x n)
form t k One code (n ∷ []) = whole_form k code n
form t k Save code (x ∷ z ∷ []) = with_register k x (λ x. byte_form k code x z)
form t k Unsave code (z ∷ []) = last_register k code 0 0 z
form t k Unsave code (x ∷ z ∷ []) = with_byte k x (λ x. last_register k code x 0 z)
form t k Free code (n ∷ []) = whole_form k code n
form t k Free code (x ∷ n ∷ []) = and_then (free_at k x) (λ x. wyde_form k code x n)
form t k Free code (x ∷ y ∷ z ∷ []) = free_form k code x y z
form t k shape code operands = Err Operands

-- an instruction by the shapes of its code, of which there is one
abbrev pub form_by : Targets → Known → List Shape → ℕ → List Tree → Answer Tetra
form_by t k [] code operands = Err Operands
form_by t k (shape ∷ shapes) code operands = form t k shape code operands

-- SET: ORI with 0 for a register, SETL for a number of 16 bits
abbrev pub set_to : ℕ → Value → Answer Tetra
set_to x (Reg y) = plain_tetra (tetra_xyz 0xc1 x y 0)
set_to x (Pure n) = and_then (number_below (2 ^ 16) n) (λ n. plain_tetra (tetra_wyde 0xe3 x n))

abbrev pub set_to_operand : Known → ℕ → Tree → Answer Tetra
set_to_operand k x y = and_then (operand_value k y) (set_to x)

abbrev pub set_form : Known → List Tree → Answer Tetra
set_form k (x ∷ y ∷ []) = with_register k x (λ x. set_to_operand k x y)
set_form k operands = Err Operands

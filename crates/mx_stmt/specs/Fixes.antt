-- What a future reference adds to the bytes of its statement once its target is known (MMIXware, MMIXAL, "Binary MMO
-- output": lop_fixo, lop_fixr and lop_fixrx).
use Rattle.std.specs.Prelude.{◌≡◌, ◌<◌, ◌≤◌, ℕ, ◌^◌, List, [], ◌∷◌, ◌++◌, length, Option, Some, IfSome, unwrap_or}
use Rattle.mx_word.specs.declared.symbols.Value.{Value}
use Rattle.mx_word.specs.declared.symbols.Value.TheVariants.{Pure, Reg}
use Rattle.mx_word.specs.declared.waits.Wait.{Wait}
use Rattle.mx_word.specs.declared.waits.WaitKind.{WaitKind}
use Rattle.mx_word.specs.declared.waits.WaitKind.TheVariants.{Octa, Near, Far}
use Rattle.mx_word.specs.Words.{octa_to_bytes, tetra_to_bytes}
use Rattle.mx_names.specs.Names.{value_of_name, back_of}
use Rattle.mx_ops.specs.declared.op.Op.{Op}
use Rattle.mx_ops.specs.Opcodes.{operation_of}
use Rattle.mx_names.specs.Gregs.{lowest_of}
use Rattle.mx_stmt.specs.declared.placed.Placed.{Placed}
use Rattle.mx_stmt.specs.Operands.{Known, Targets}
use Rattle.mx_stmt.specs.Forms.{near_reach, far_reach, future_word}
use Rattle.mx_stmt.specs.Placements.{from_place, placed}

-- The bytes that a reference at a place adds: its target as an octa, or the relative address as a tetra with nothing else
-- in it. A reference that has no target, or one out of reach or at no multiple of 4, adds zeros.
abbrev pub fix_bytes : WaitKind → ℕ → Option ℕ → List ℕ
fix_bytes Octa place target = octa_to_bytes (unwrap_or target 0)
fix_bytes Near place target = tetra_to_bytes (future_word 0 near_reach place target)
fix_bytes Far place target = tetra_to_bytes (future_word 0 far_reach place target)

-- what references add, each at its place
abbrev pub fix_placements : Targets → List Wait → List (ℕ × ℕ)
fix_placements t [] = []
fix_placements t (w ∷ waits) = from_place w.at (fix_bytes w.kind w.at (t w.who)) ++ fix_placements t waits

-- What a statement places with its targets known, after what it places with none known: the bytes are joined by exclusive
-- or with those that its references add, and all else is the same.
pub record IsFixed (t : Targets) (before after : Placed) : Type 0 where
  pub start : after.start ≡ before.start
  pub count : length after.bytes ≡ length before.bytes
  pub bytes : (a : ℕ) → placed (from_place after.start after.bytes) a ≡ placed (from_place before.start before.bytes ++ fix_placements t before.waits) a
  pub waits : after.waits ≡ before.waits
  pub label : after.label ≡ before.label
  pub effect : after.effect ≡ before.effect
  pub next : after.after ≡ before.after

-- The operation is that of a name.
abbrev pub IsOperation : Op → Type 0
IsOperation op = (name : List ℕ) × (operation_of name ≡ Some op)

-- The number of a register is a byte.
abbrev pub HasRegisterNumber : Value → Type 0
HasRegisterNumber (Pure n) = Unit {0}
HasRegisterNumber (Reg r) = r < 2 ^ 8

-- What always holds of what is known at a statement: each register that a symbol or a local label means is one of $0
-- to $255, and the allocated ones are $32 and above.
pub record IsSound (k : Known) : Type 0 where
  pub symbols : (name : List ℕ) → IfSome (value_of_name k.names name) HasRegisterNumber
  pub backs : (d : ℕ) → HasRegisterNumber (back_of k.names d)
  pub gregs : 32 ≤ lowest_of k.gregs

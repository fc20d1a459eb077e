-- The operands that are shown, as trees.
use Rattle.std.proofs.Common.{◌≡◌, ℕ, ◌<◌, ◌≤◌, ◌^◌, Bool, cond, List, [], ◌∷◌, length, map, Ok, rules}
use Rattle.mx_gen.proofs.ShownWords.{decimal, opcode_kind, is_immediate, Shape, Three, Regs, Round, Neg, Rel, Mem, MemPure, Wyde, Jump, Put, Get, Pop, One, Save, Unsave, Free, Register, Tree, number, unary, reading, Spells, Faultless, hex_text, field_code, field_x, field_y, field_z, field_yz, field_xyz, shape, target, last, operand_text, operands, operands_text, shown_operands}
use Rattle.mx_expr.proofs.Exact.{reading-ok}
use Rattle.mx_expr.proofs.Fields.{one-list}
use Rattle.mx_gen.proofs.Numerals.{decimal-constant, hexadecimal-constant}
use Rattle.mx_gen.proofs.OperandLists.{IsTaken, Each, constant-taken, register-taken, list-read}

-- `$` and a number
abbrev pub register : ℕ → Tree
register n = unary Register (number n)

abbrev pub either : Bool → ℕ → Tree
either immediate z = cond immediate (number z) (register z)

-- $Z, or the byte Z at an immediate code
abbrev pub last_tree : ℕ → ℕ → Tree
last_tree code z = either (is_immediate (opcode_kind code)) z

abbrev pub trees : Shape → ℕ → ℕ → List Tree
trees Three word pc = register (field_x word) ∷ register (field_y word) ∷ last_tree (field_code word) (field_z word) ∷ []
trees Regs word pc = register (field_x word) ∷ register (field_y word) ∷ register (field_z word) ∷ []
trees Round word pc = register (field_x word) ∷ number (field_y word) ∷ last_tree (field_code word) (field_z word) ∷ []
trees Neg word pc = register (field_x word) ∷ number (field_y word) ∷ last_tree (field_code word) (field_z word) ∷ []
trees Rel word pc = register (field_x word) ∷ number (target (field_code word) pc (field_yz word) (2 ^ 16)) ∷ []
trees Mem word pc = register (field_x word) ∷ register (field_y word) ∷ last_tree (field_code word) (field_z word) ∷ []
trees MemPure word pc = number (field_x word) ∷ register (field_y word) ∷ last_tree (field_code word) (field_z word) ∷ []
trees Wyde word pc = register (field_x word) ∷ number (field_yz word) ∷ []
trees Jump word pc = number (target (field_code word) pc (field_xyz word) (2 ^ 24)) ∷ []
trees Put word pc = number (field_x word) ∷ last_tree (field_code word) (field_z word) ∷ []
trees Get word pc = register (field_x word) ∷ number (field_z word) ∷ []
trees Pop word pc = number (field_x word) ∷ number (field_yz word) ∷ []
trees One word pc = number (field_xyz word) ∷ []
trees Save word pc = register (field_x word) ∷ number (field_z word) ∷ []
trees Unsave word pc = number (field_x word) ∷ register (field_z word) ∷ []
trees Free word pc = number (field_x word) ∷ number (field_y word) ∷ number (field_z word) ∷ []

-- What holds of each number, register and address below 2^64 holds of each operand that is shown.
module _ (R : List ℕ → Tree → Type 0) (of-number : (n : ℕ) → n < 2 ^ 64 → R (decimal n) (number n)) (of-register : (n : ℕ) → n < 2 ^ 64 → R (36 ∷ decimal n) (register n)) (of-address : (n : ℕ) → n < 2 ^ 64 → R (hex_text n) (number n)) (word pc : ℕ) where
  z : R (operand_text (last (field_code word) (field_z word))) (last_tree (field_code word) (field_z word))
  z = search rules

  pub each-shown : (s : Shape) → Each R (map operand_text (operands s word pc)) (trees s word pc)
  each-shown s = search rules

-- There are one to three operands.
pub few : (s : Shape) (word pc : ℕ) → (0 < length (trees s word pc)) × (length (trees s word pc) ≤ 3)
few s word pc = search rules

number-taken : (n : ℕ) → n < 2 ^ 64 → IsTaken (decimal n) (number n)
number-taken n lt = constant-taken (decimal n) n lt (decimal-constant n lt)

dollar-taken : (n : ℕ) → n < 2 ^ 64 → IsTaken (36 ∷ decimal n) (register n)
dollar-taken n lt = register-taken (decimal n) n lt (decimal-constant n lt)

address-taken : (n : ℕ) → n < 2 ^ 64 → IsTaken (hex_text n) (number n)
address-taken n lt = constant-taken (hex_text n) n lt (hexadecimal-constant n lt)

module _ (word pc : ℕ) where
  shape-read : (s : Shape) → reading (operands_text (operands s word pc)) ≡ Ok (trees s word pc)
  unfolding operands_text
  shape-read s = list-read (map operand_text (operands s word pc)) (trees s word pc) (few s word pc).0 (each-shown IsTaken number-taken dollar-taken address-taken word pc s)

  shown-read : reading (operands_text (shown_operands word pc)) ≡ Ok (trees (shape (field_code word)) word pc)
  unfolding shown_operands
  shown-read = shape-read (shape (field_code word))

  -- The shown operands are read as these trees, and as no others.
  pub shown-spelled : Spells (operands_text (shown_operands word pc)) (trees (shape (field_code word)) word pc) × Faultless (operands_text (shown_operands word pc))
  shown-spelled = reading-ok (operands_text (shown_operands word pc)) (trees (shape (field_code word)) word pc) shown-read

  pub trees-shown : (list : List Tree) → Spells (operands_text (shown_operands word pc)) list → list ≡ trees (shape (field_code word)) word pc
  trees-shown list is = one-list (operands_text (shown_operands word pc)) list (trees (shape (field_code word)) word pc) is shown-spelled.0

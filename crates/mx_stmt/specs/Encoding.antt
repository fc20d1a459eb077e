-- The bytes of one statement: what it places, its label's value, its effect and the next place, or its first fault.
-- Each future reference has its target's value, or zero where there is no target (MMIXware, MMIXAL; TAOCP 1, Fascicle
-- 1, section 1.3.2').
use Rattle.std.specs.Prelude.{ℕ, ◌+◌, ◌-◌, ◌*◌, ◌/◌, ◌%◌, ◌^◌, nat_lt, if◌then◌else◌, List, [], ◌∷◌, length, Option, None, Some, ok_or, Result, Ok, Err}
use Rattle.mx_word.specs.declared.symbols.Value.{Value}
use Rattle.mx_word.specs.declared.symbols.Value.TheVariants.{Pure, Reg}
use Rattle.mx_word.specs.declared.waits.Awaited.{Awaited}
use Rattle.mx_word.specs.declared.waits.Wait.{Wait}
use Rattle.mx_word.specs.declared.waits.WaitKind.{WaitKind}
use Rattle.mx_word.specs.Words.{tetra_to_bytes}
use Rattle.mx_expr.specs.declared.faults.ExprFault.TheVariants.{NameTooLong}
use Rattle.mx_expr.specs.Tree.{Tree, name, trees_of}
use Rattle.mx_names.specs.declared.fault.NameFault.{NameFault}
use Rattle.mx_ops.specs.declared.op.Op.{Op}
use Rattle.mx_ops.specs.declared.op.Op.TheVariants.{Pseudo as PseudoOp, Code, Lda, Set}
use Rattle.mx_ops.specs.declared.op.Pseudo.{Pseudo}
use Rattle.mx_ops.specs.declared.op.Pseudo.TheVariants as pseudo
use Rattle.mx_ops.specs.declared.op.Shape.TheVariants.{Mem}
use Rattle.mx_ops.specs.Shapes.{shapes_of}
use Rattle.mx_names.specs.Gregs.{IsAllocable, register_for}
use Rattle.mx_stmt.specs.declared.data.Data.{Data}
use Rattle.mx_stmt.specs.declared.forms.Tetra.{Tetra}
use Rattle.mx_stmt.specs.declared.statement.Label.{Label}
use Rattle.mx_stmt.specs.declared.statement.Statement.{Statement}
use Rattle.mx_stmt.specs.declared.placed.Effect.{Effect}
use Rattle.mx_stmt.specs.declared.placed.Effect.TheVariants.{Plain, Prefix, Greg, Local}
use Rattle.mx_stmt.specs.declared.placed.Placed.{Placed}
use Rattle.mx_stmt.specs.declared.faults.StmtFault.TheVariants.{Expr, Operands, TooManyGregs, BadPlace}
use Rattle.mx_stmt.specs.Steps.{Answer, and_then}
use Rattle.mx_stmt.specs.Operands.{Known, Targets, symbol_form, operand_value, register_at, pure_at}
use Rattle.mx_stmt.specs.Forms.{form, form_by, set_form}
use Rattle.mx_stmt.specs.Data.{data_form}

-- A statement with its operands as trees.
pub record StatementTree : Type 0 where
  pub line : ℕ
  pub label : Option Label
  pub op : Op
  pub operands : List Tree

abbrev pub statement_tree : Statement → StatementTree
statement_tree s = record { line = s.line; label = s.label; op = s.op; operands = trees_of s.operands }

-- An effect is possible where the register of a GREG may be given its value.
abbrev pub IsPossible : List ℕ → Effect → Type 0
IsPossible gregs Plain = Unit {0}
IsPossible gregs (Prefix full) = Unit {0}
IsPossible gregs (Greg reg value) = IsAllocable gregs reg
IsPossible gregs (Local reg) = Unit {0}

-- `@` is first raised, modulo 2^64, to a multiple of this.
abbrev pub alignment : Op → ℕ
alignment (PseudoOp pseudo.Wyde) = 2
alignment (PseudoOp pseudo.Tetra) = 4
alignment (PseudoOp pseudo.Octa) = 8
alignment (PseudoOp p) = 1
alignment (Code code) = 4
alignment Lda = 4
alignment Set = 4

abbrev pub place_at : ℕ → ℕ → ℕ
place_at multiple at = (at + (multiple - 1)) / multiple * multiple % 2 ^ 64

abbrev pub known_at_place : ℕ → Known → Known
known_at_place multiple k = record k { at = place_at multiple k.at }

-- the value of a label, where there is one
abbrev pub label_value : Option Label → Value → Option Value
label_value None value = None
label_value (Some label) value = Some value

-- a statement that places no bytes
abbrev pub without_bytes : Known → Option Label → Value → Effect → ℕ → Answer Placed
without_bytes k label value effect next =
    Ok (record { start = k.at; bytes = []; waits = []; label = label_value label value; effect = effect; after = next })

-- bytes at the place, of which none may lie at Stack_Segment or above
abbrev pub with_bytes : Known → Option Label → Data → Answer Placed
with_bytes k label d =
    if nat_lt 0x6000_0000_0000_0000 (k.at + length d.bytes) then Err BadPlace
    else Ok (record { start = k.at; bytes = d.bytes; waits = d.waits; label = label_value label (Pure k.at); effect = Plain; after = k.at + length d.bytes })

-- an instruction as bytes and references
abbrev pub tetra_waits : ℕ → ℕ → Option (Awaited × WaitKind) → List Wait
tetra_waits line place None = []
tetra_waits line place (Some reference) = record { who = reference.0; at = place; line = line; kind = reference.1 } ∷ []

abbrev pub tetra_data : ℕ → ℕ → Tetra → Data
tetra_data line place tetra = record { bytes = tetra_to_bytes tetra.word; waits = tetra_waits line place tetra.wait }

abbrev pub with_tetra : Known → ℕ → Option Label → Answer Tetra → Answer Placed
with_tetra k line label tetra = and_then tetra (λ tetra. with_bytes k label (tetra_data line k.at tetra))

abbrev pub with_data : Known → Option Label → Answer Data → Answer Placed
with_data k label d = and_then d (with_bytes k label)

-- IS: the label gets the value of the operand.
abbrev pub is_form : Known → Option Label → Tree → Answer Placed
is_form k label e = and_then (operand_value k e) (λ value. without_bytes k label value Plain k.at)

-- LOC: `@` becomes the value; the label gets what it was before.
abbrev pub loc_form : Known → Option Label → Tree → Answer Placed
loc_form k label e = and_then (pure_at k e) (λ next. without_bytes k label (Pure k.at) Plain next)

-- PREFIX: the operand is a symbol, whose complete form becomes the prefix.
abbrev pub symbol_answer : Result (List ℕ) NameFault → Answer (List ℕ)
symbol_answer (Err fault) = Err (Expr NameTooLong)
symbol_answer (Ok full) = Ok full

abbrev pub complete_symbol : Known → List ℕ → Answer (List ℕ)
complete_symbol k text = symbol_answer (symbol_form k.names text)

abbrev pub prefix_form : Known → Option Label → Tree → Answer Placed
prefix_form k label (name text) = and_then (complete_symbol k text) (λ full. without_bytes k label (Pure k.at) (Prefix full) k.at)
prefix_form k label e = Err Operands

-- GREG: the label gets the register of the value.
abbrev pub greg_register : Known → ℕ → Answer ℕ
greg_register k value = ok_or (register_for k.gregs value) TooManyGregs

abbrev pub greg_form : Known → Option Label → Tree → Answer Placed
greg_form k label e =
    and_then (pure_at k e) (λ value. and_then (greg_register k value) (λ reg. without_bytes k label (Reg reg) (Greg reg value) k.at))

-- LOCAL: the register has to stay below the final G.
abbrev pub local_form : Known → Option Label → Tree → Answer Placed
local_form k label e = and_then (register_at k e) (λ reg. without_bytes k label (Pure k.at) (Local reg) k.at)

-- the pseudo-operations that take one operand
abbrev pub one_form : Known → Option Label → Pseudo → Tree → Answer Placed
one_form k label pseudo.Is e = is_form k label e
one_form k label pseudo.Loc e = loc_form k label e
one_form k label pseudo.Prefix e = prefix_form k label e
one_form k label pseudo.Greg e = greg_form k label e
one_form k label pseudo.Local e = local_form k label e
one_form k label p e = Err Operands

abbrev pub one_operand : Known → Option Label → Pseudo → List Tree → Answer Placed
one_operand k label p (e ∷ []) = one_form k label p e
one_operand k label p operands = Err Operands

abbrev pub pseudo_form : Targets → Known → ℕ → Option Label → Pseudo → List Tree → Answer Placed
pseudo_form t k line label pseudo.Byte operands = with_data k label (data_form t k line 1 operands)
pseudo_form t k line label pseudo.Wyde operands = with_data k label (data_form t k line 2 operands)
pseudo_form t k line label pseudo.Tetra operands = with_data k label (data_form t k line 4 operands)
pseudo_form t k line label pseudo.Octa operands = with_data k label (data_form t k line 8 operands)
pseudo_form t k line label p operands = one_operand k label p operands

-- LDA is ADDU in the form of a memory instruction.
abbrev pub op_form : Targets → Known → ℕ → Option Label → Op → List Tree → Answer Placed
op_form t k line label (PseudoOp p) operands = pseudo_form t k line label p operands
op_form t k line label (Code code) operands = with_tetra k line label (form_by t k (shapes_of code) code operands)
op_form t k line label Lda operands = with_tetra k line label (form t k Mem 0x22 operands)
op_form t k line label Set operands = with_tetra k line label (set_form k operands)

-- One statement by what is known at it, with `@` as it was before the statement.
abbrev pub encoding : Targets → Known → StatementTree → Answer Placed
encoding t k s = op_form t (known_at_place (alignment s.op) k) s.line s.label s.op s.operands

-- What holds of statements that place no bytes, of data and of instructions holds of all statements.
use Rattle.std.proofs.Common.{◌≡◌, ◌≤◌, ℕ, ◌%◌, true, List, [], ◌∷◌, Option, arith}
use Rattle.mx_stmt.proofs.Words.{false≢true, Tree, Op, Code, Lda, Set, Pseudo, Shape, Mem, shapes_of, Tetra, Label, Placed, Answer, Known, Targets, form_by, set_form, data_form, StatementTree, alignment, place_at, known_at_place, with_tetra, with_data, one_operand, pseudo_form, op_form, encoding, IsOperation}
use Rattle.mx_ops.specs.declared.op.Op.TheVariants.{Pseudo as PseudoOp}
use Rattle.mx_ops.specs.declared.op.Pseudo.TheVariants as pseudo
use Rattle.mx_stmt.proofs.CodesOfTargets.{even-code, has_address}
use Rattle.mx_stmt.proofs.EveryForm.{HasNoWait, set-plain}
use Rattle.mx_stmt.proofs.SilentStatements.{AreSilent, silent-operand}

aligned : (op : Op) (at : ℕ) → place_at (alignment op) at % alignment op ≡ 0
aligned op at = grind arith

-- one property of the answers with any targets, where `@` is raised
module _ (k : Known) (line : ℕ) (label : Option Label) (P : (Targets → Answer Placed) → Type 0) (silent : (a : Answer Placed) → AreSilent k a → P (λ t. a)) where
  abbrev OfData : Type 0
  OfData = (size : ℕ) (es : List Tree) → size ≤ 8 → (size ≡ 8 → k.at % 8 ≡ 0) → P (λ t. with_data k label (data_form t k line size es))

  abbrev OfForms : Op → Type 0
  OfForms op = (shapes : List Shape) (code : ℕ) (l : List Tree) → k.at % 4 ≡ 0 → (IsOperation op → has_address shapes ≡ true → code % 2 ≡ 0) → P (λ t. with_tetra k line label (form_by t k shapes code l))

  abbrev OfPlain : Type 0
  OfPlain = (a : Answer Tetra) → k.at % 4 ≡ 0 → HasNoWait a → P (λ t. with_tetra k line label a)

  every-pseudo : (p : Pseudo) (operands : List Tree) → k.at % alignment (PseudoOp p) ≡ 0 → OfData → P (λ t. pseudo_form t k line label p operands)
  every-pseudo pseudo.Byte operands m datum = datum 1 operands (omega arith) (λ e. absurd (omega (arith, e)))
  every-pseudo pseudo.Wyde operands m datum = datum 2 operands (omega arith) (λ e. absurd (omega (arith, e)))
  every-pseudo pseudo.Tetra operands m datum = datum 4 operands (omega arith) (λ e. absurd (omega (arith, e)))
  every-pseudo pseudo.Octa operands m datum = datum 8 operands (omega arith) (λ e. m)
  every-pseudo p operands m datum = silent (one_operand k label p operands) (silent-operand k label p operands)

  every-op : (op : Op) (operands : List Tree) → k.at % alignment op ≡ 0 → OfData → OfForms op → OfPlain → P (λ t. op_form t k line label op operands)
  every-op (PseudoOp p) operands m datum forms plain = every-pseudo p operands m datum
  every-op (Code code) operands m datum forms plain = forms (shapes_of code) code operands m (λ operation. even-code operation.0 code operation.1)
  every-op Lda operands m datum forms plain = forms (Mem ∷ []) 0x22 operands m (λ operation address. absurd (false≢true address))
  every-op Set operands m datum forms plain = plain (set_form k operands) m (set-plain k operands)

-- what is known where a statement lies
abbrev pub at_place : Known → StatementTree → Known
at_place k s = known_at_place (alignment s.op) k

pub every-statement : (k : Known) (s : StatementTree) (P : (Targets → Answer Placed) → Type 0) →
    ((a : Answer Placed) → AreSilent (at_place k s) a → P (λ t. a)) →
    ((size : ℕ) (es : List Tree) → size ≤ 8 → (size ≡ 8 → (at_place k s).at % 8 ≡ 0) → P (λ t. with_data (at_place k s) s.label (data_form t (at_place k s) s.line size es))) →
    ((shapes : List Shape) (code : ℕ) (l : List Tree) → (at_place k s).at % 4 ≡ 0 → (IsOperation s.op → has_address shapes ≡ true → code % 2 ≡ 0) →
    P (λ t. with_tetra (at_place k s) s.line s.label (form_by t (at_place k s) shapes code l))) →
    ((a : Answer Tetra) → (at_place k s).at % 4 ≡ 0 → HasNoWait a → P (λ t. with_tetra (at_place k s) s.line s.label a)) → P (λ t. encoding t k s)
every-statement k s P silent datum forms plain = every-op (at_place k s) s.line s.label P silent s.op s.operands (aligned s.op k.at) datum forms plain

-- How many bytes items are written as, and those of a statement.
use Rattle.std.proofs.Common.{◌≡◌, ◌≤◌, ℕ, ◌+◌, ◌*◌, ◌/◌, ◌^◌, List, [], ◌∷◌, ◌++◌, length, map, arith, ap, ◌∙◌, length-append, ◌==◌, ◌-◌, ◌%◌, Bool, false, cond, Option, None, Some, Ok, Err, refl, sym, subst, length-drop, nat_lt, sum_by, rules}
use Rattle.mx_asm.proofs.Words.{cond_both, flat_map-append, tetra_from_bytes, tetras_of, Item, Load, loaded, bytes_of, written, covered, nat_tests, sum_by-cons, Awaited, Wait, octa_to_bytes, Tree, number, name, ahead, unary, Op, Code, Lda, Set, Pseudo, Mem, shapes_of, Label, Placed, Answer, and_then, Known, Targets, pure_at, known_target, target_by, target_at, reference_of, no_targets, form, form_by, set_form, data_number, low_bytes, datum, with_rest, data_of, data_form, StatementTree, alignment, place_at, known_at_place, with_data, one_operand, pseudo_form, op_form, encoding, AreSilent, silent-operand, nothing_known, after-gives, gives-value, Gives, common_steps}
use Rattle.std.proofs.lemmas.List.Concat.{flat_map-cons}
use Rattle.mx_asm.proofs.MeaningBytes.{covered-length}
use Rattle.mx_ops.specs.declared.op.Op.TheVariants.{Pseudo as PseudoOp}
use Rattle.mx_ops.specs.declared.op.Pseudo.TheVariants as pseudo
use Rattle.mx_ops.specs.declared.op.Shape.{Shape}
use Rattle.mx_stmt.specs.Encoding.{with_bytes, with_tetra}
use Rattle.mx_asm.proofs.Weights.{operand_weight}

-- ---- how many bytes items are written as

pub written-append : (xs ys : List Item) → length (written (xs ++ ys)) ≡ length (written xs) + length (written ys)
written-append xs ys = ap length (flat_map-append bytes_of xs ys) ∙ length-append (written xs) (written ys)

pub written-cons : (i : Item) (items : List Item) → length (written (i ∷ items)) ≡ length (bytes_of i) + length (written items)
written-cons i items = ap length (flat_map-cons bytes_of i items) ∙ length-append (bytes_of i) (written items)

-- ---- tetras that are loaded

pub loaded-most : (t : ℕ) → length (loaded t) ≤ 8
loaded-most t = cond_both (t / 2 ^ 24 == 0x98) _ _ (λ x. length x ≤ 8) (λ _. omega arith) (λ _. omega arith)

-- the bytes that the tetras of these bytes are written as
abbrev pub load_length : List ℕ → ℕ
load_length bytes = length (written (map Load (tetras_of bytes)))

pub load-tetra : (a b c d : ℕ) (more : List ℕ) → load_length (a ∷ b ∷ c ∷ d ∷ more) ≡ length (loaded (tetra_from_bytes (a ∷ b ∷ c ∷ d ∷ []))) + load_length more
load-tetra a b c d more = written-cons (Load (tetra_from_bytes (a ∷ b ∷ c ∷ d ∷ []))) (map Load (tetras_of more))

pub load-most : (bytes : List ℕ) → load_length bytes ≤ 2 * length bytes
load-most (a ∷ b ∷ c ∷ d ∷ more) = omega (arith, load-tetra a b c d more, loaded-most (tetra_from_bytes (a ∷ b ∷ c ∷ d ∷ [])), load-most more)
load-most bytes = omega arith

-- ---- the tetras that cover bytes

pub covered-most : (start : ℕ) (bytes : List ℕ) → length (covered start bytes) ≤ length bytes + 6
covered-most start bytes = let whole = covered-length start bytes in omega (arith, whole)

-- ---- the tetras of a statement and the records of its references have at most the weights of its operands and 12 bytes

-- What an answer holds: data, which are bytes and references, and the tetra of an instruction have no name outside their
-- crate.
abbrev Held : {A : Type 0} → Answer A → Type 0
Held {A} a = A

abbrev Placing : Type 0
Placing = Held (data_form no_targets nothing_known 0 1 [])

abbrev Instruction : Type 0
Instruction = Held (set_form nothing_known [])

-- ---- operands

abbrev asked : List Tree → ℕ
asked operands = sum_by operand_weight operands

weight-least : (e : Tree) → 8 ≤ operand_weight e
weight-least e = grind (arith, nat_tests)

-- ---- bytes, wydes and tetras

-- two bytes of an object for each byte, since each tetra may be quoted
abbrev FitsSmall : List Tree → List ℕ → List Wait → Type 0
FitsSmall operands bytes waits = 2 * length bytes + 12 * length waits ≤ asked operands

abbrev AreSmall : List Tree → Answer Placing → Type 0
AreSmall operands a = Gives (λ (d : Placing). FitsSmall operands d.bytes d.waits) a

low-most : (size n : ℕ) → size ≤ 4 → length (low_bytes size n) ≤ 4
low-most size n small = let whole = length-drop (8 - size) (octa_to_bytes n) in omega (arith, small, whole)

module _ (t : Targets) (k : Known) (line size : ℕ) (small : size ≤ 4) where
  -- none of these operands may be a reference
  abbrev value_at : Tree → Answer ℕ
  value_at e = and_then (pure_at k e) (data_number size)

  no-octa : (size == 8) ≡ false
  no-octa = grind (arith, nat_tests)

  small-step : (place : ℕ) (e : Tree) (es : List Tree) (n : Answer ℕ) (rest : Answer Placing) → AreSmall es rest →
      AreSmall (e ∷ es) (and_then (known_target n) (λ target. with_rest (datum t line size place target) rest))
  small-step place e es (Ok n) (Ok rest) h =
      omega (arith, h, low-most size n small, length-append (low_bytes size n) rest.bytes, weight-least e, sum_by-cons operand_weight e es)
  small-step place e es n rest h = tt

  small-fits : (place : ℕ) (es : List Tree) → AreSmall es (data_of t k line size place es)
  unfolding data_of
  small-fits place [] = omega arith
  small-fits place (e ∷ es) =
      let rest = data_of t k line size ((place + size) % 2 ^ 64) es in
      subst (λ a. AreSmall (e ∷ es) (and_then a (λ target. with_rest (datum t line size place target) rest))) (sym (ap (λ octa. cond octa (target_at k e) (known_target (value_at e))) no-octa))
      (small-step place e es (value_at e) rest (small-fits ((place + size) % 2 ^ 64) es))

  small-form : (es : List Tree) → AreSmall es (data_form t k line size es)
  small-form es = grind (arith, small-fits)

-- ---- octas

record FitsOctas (operands : List Tree) (bytes : List ℕ) (waits : List Wait) : Type 0 where
  whole : length bytes % 4 ≡ 0
  few : load_length bytes + 12 * length waits ≤ asked operands

abbrev AreOctas : List Tree → Answer Placing → Type 0
AreOctas operands a = Gives (λ (d : Placing). FitsOctas operands d.bytes d.waits) a

octa-load : (n : ℕ) (more : List ℕ) → load_length (low_bytes 8 n ++ more) ≤ 16 + load_length more
octa-load n more = grind (arith, nat_tests)

-- what one operand places has its weight at most
abbrev IsPaid : ℕ → List ℕ → List Wait → Type 0
IsPaid most bytes waits = (more : List ℕ) → load_length (bytes ++ more) + 12 * length waits ≤ most + load_length more

number-paid : (n : ℕ) (low : Bool) → nat_lt n 256 ≡ low → IsPaid (cond low 8 28) (low_bytes 8 n) []
number-paid n low h = grind (arith, nat_tests)

-- an operand that may be a reference
abbrev IsHeavy : Tree → Type 0
IsHeavy e = operand_weight e ≡ 28

heavy-paid : (e : Tree) (n : ℕ) (waits : List Wait) → IsHeavy e → length waits ≤ 1 → IsPaid (operand_weight e) (low_bytes 8 n) waits
heavy-paid e n waits heavy one more = omega (arith, heavy, one, octa-load n more)

joined-octas : (e : Tree) (es : List Tree) (bytes more : List ℕ) (waits later : List Wait) → length bytes ≡ 8 → IsPaid (operand_weight e) bytes waits → FitsOctas es more later →
    FitsOctas (e ∷ es) (bytes ++ more) (waits ++ later)
joined-octas e es bytes more waits later h1 h2 h3 = grind (arith, common_steps, nat_tests)

module _ (t : Targets) (k : Known) (line : ℕ) where
  abbrev octa_then : ℕ → Option Awaited → Answer ℕ → Answer Placing → Answer Placing
  octa_then place reference n rest = and_then (target_by reference n) (λ target. with_rest (datum t line 8 place target) rest)

  heavy-step : (place : ℕ) (e : Tree) (es : List Tree) (reference : Option Awaited) (n : Answer ℕ) (rest : Answer Placing) → IsHeavy e → AreOctas es rest →
      AreOctas (e ∷ es) (octa_then place reference n rest)
  heavy-step place e es (Some who) n (Ok rest) heavy h = search (rules, joined-octas, heavy-paid)
  heavy-step place e es None (Ok n) (Ok rest) heavy h = search (rules, joined-octas, heavy-paid)
  heavy-step place e es reference n rest heavy h = tt

  number-step : (place n : ℕ) (es : List Tree) (rest : Answer Placing) → AreOctas es rest → AreOctas (number n ∷ es) (octa_then place None (Ok n) rest)
  number-step place n es (Err fault) h = tt
  number-step place n es (Ok rest) h = joined-octas (number n) es (low_bytes 8 n) rest.bytes [] rest.waits refl (number-paid n (nat_lt n 256) refl) h

  octa-step : (place : ℕ) (e : Tree) (es : List Tree) (rest : Answer Placing) → AreOctas es rest → AreOctas (e ∷ es) (octa_then place (reference_of k e) (pure_at k e) rest)
  octa-step place (number n) es rest h = number-step place n es rest h
  octa-step place (name text) es rest h = heavy-step place (name text) es (reference_of k (name text)) (pure_at k (name text)) rest refl h
  octa-step place (ahead d) es rest h = heavy-step place (ahead d) es (reference_of k (ahead d)) (pure_at k (ahead d)) rest refl h
  octa-step place (unary op e) es rest h = heavy-step place (unary op e) es None (pure_at k (unary op e)) rest refl h
  octa-step place e es rest h = heavy-step place e es None (pure_at k e) rest refl h

  octas-fit : (place : ℕ) (es : List Tree) → AreOctas es (data_of t k line 8 place es)
  unfolding data_of
  octas-fit place [] = record { whole = refl; few = omega arith }
  octas-fit place (e ∷ es) = octa-step place e es (data_of t k line 8 ((place + 8) % 2 ^ 64) es) (octas-fit ((place + 8) % 2 ^ 64) es)

  octa-form : (es : List Tree) → AreOctas es (data_form t k line 8 es)
  octa-form es = grind (arith, octas-fit)

-- ---- statements

-- 12 bytes are those of the tetras that are not filled
abbrev pub FitsOperands : List Tree → Placed → Type 0
FitsOperands operands p = load_length (covered p.start p.bytes) + 12 * length p.waits ≤ 12 + asked operands

abbrev Fits : List Tree → Answer Placed → Type 0
Fits operands a = Gives (FitsOperands operands) a

bytes-fit : (k : Known) (label : Option Label) (operands : List Tree) (d : Placing) → load_length (covered k.at d.bytes) + 12 * length d.waits ≤ 12 + asked operands → Fits operands (with_bytes k label d)
bytes-fit k label operands d h = cond_both (nat_lt 0x6000_0000_0000_0000 (k.at + length d.bytes)) _ _ (Fits operands) (λ _. tt) (λ _. h)

-- the same where tetras are filled
whole-fit : (k : Known) (label : Option Label) (operands : List Tree) (d : Placing) → k.at % 4 ≡ 0 → length d.bytes % 4 ≡ 0 → load_length d.bytes + 12 * length d.waits ≤ 12 + asked operands → Fits operands (with_bytes k label d)
whole-fit k label operands d place whole h = grind (arith, common_steps, nat_tests)

module _ (k : Known) (label : Option Label) (operands : List Tree) where
  small-data : (a : Answer Placing) → AreSmall operands a → Fits operands (with_data k label a)
  small-data a h = grind (arith, after-gives, bytes-fit, load-most, covered-most)

  octa-data : (a : Answer Placing) → k.at % 4 ≡ 0 → AreOctas operands a → Fits operands (with_data k label a)
  octa-data a place h =
      after-gives (λ (d : Placing). FitsOctas operands d.bytes d.waits) (FitsOperands operands) a (with_bytes k label) h
      (λ d fit. whole-fit k label operands d place fit.whole (omega (arith, fit.few)))

-- a statement that places nothing
silent-fits : (k : Known) (operands : List Tree) (a : Answer Placed) → AreSilent k a → Fits operands a
unfolding AreSilent
silent-fits k operands a h = search (rules, load-most, covered-most)

-- ---- instructions

-- An instruction has an operand.
abbrev HasOperand : List Tree → Answer Instruction → Type 0
HasOperand operands a = Gives (λ (tetra : Instruction). 8 ≤ asked operands) a

module _ (t : Targets) (k : Known) where
  form-operands : (shape : Shape) (code : ℕ) (operands : List Tree) → HasOperand operands (form t k shape code operands)
  form-operands shape code operands = search rules

  coded-operands : (shapes : List Shape) (code : ℕ) (operands : List Tree) → HasOperand operands (form_by t k shapes code operands)
  coded-operands shapes code operands = search rules

  set-operands : (operands : List Tree) → HasOperand operands (set_form k operands)
  set-operands operands = search rules

tetra-fits : (k : Known) (line : ℕ) (label : Option Label) (operands : List Tree) (a : Answer Instruction) → k.at % 4 ≡ 0 → HasOperand operands a → Fits operands (with_tetra k line label a)
tetra-fits k line label operands a place h = grind (arith, nat_tests)

-- ---- all operations

tetra-place : (at : ℕ) → place_at 4 at % 4 ≡ 0
tetra-place at = omega arith

module _ (t : Targets) (k : Known) (line : ℕ) (label : Option Label) where
  pseudo-fits : (p : Pseudo) (operands : List Tree) → Fits operands (pseudo_form t (known_at_place (alignment (PseudoOp p)) k) line label p operands)
  pseudo-fits pseudo.Byte operands = small-data (known_at_place 1 k) label operands _ (small-form t (known_at_place 1 k) line 1 (omega arith) operands)
  pseudo-fits pseudo.Wyde operands = small-data (known_at_place 2 k) label operands _ (small-form t (known_at_place 2 k) line 2 (omega arith) operands)
  pseudo-fits pseudo.Tetra operands = small-data (known_at_place 4 k) label operands _ (small-form t (known_at_place 4 k) line 4 (omega arith) operands)
  pseudo-fits pseudo.Octa operands = octa-data (known_at_place 8 k) label operands _ (omega arith) (octa-form t (known_at_place 8 k) line operands)
  pseudo-fits p operands = silent-fits (known_at_place 1 k) operands (one_operand (known_at_place 1 k) label p operands) (silent-operand (known_at_place 1 k) label p operands)

  op-fits : (op : Op) (operands : List Tree) → Fits operands (op_form t (known_at_place (alignment op) k) line label op operands)
  op-fits (PseudoOp p) operands = pseudo-fits p operands
  op-fits (Code code) operands = tetra-fits (known_at_place 4 k) line label operands _ (tetra-place k.at) (coded-operands t (known_at_place 4 k) (shapes_of code) code operands)
  op-fits Lda operands = tetra-fits (known_at_place 4 k) line label operands _ (tetra-place k.at) (form-operands t (known_at_place 4 k) Mem 0x22 operands)
  op-fits Set operands = tetra-fits (known_at_place 4 k) line label operands _ (tetra-place k.at) (set-operands t (known_at_place 4 k) operands)

pub encoding-fits : (t : Targets) (k : Known) (s : StatementTree) (p : Placed) → encoding t k s ≡ Ok p → FitsOperands s.operands p
encoding-fits t k s p is = gives-value (FitsOperands s.operands) (encoding t k s) p (op-fits t k s.line s.label s.op s.operands) is
